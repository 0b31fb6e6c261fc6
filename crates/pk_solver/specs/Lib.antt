pub mod Bounds
pub mod Prepared
pub mod Solved
