pub mod Ordering
pub mod Fours
pub mod Ones
mod Filling
mod Writing
pub mod Reading
pub mod Telling
mod Told
mod ToldValues
mod ToldBounds
mod Settled
