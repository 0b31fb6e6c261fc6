pub mod Solved
pub mod Packed
pub mod Outcomes
mod Determined
