pub mod Ranges
mod Cuts
pub mod Orders
mod Joins
pub mod Writing
pub mod Told
