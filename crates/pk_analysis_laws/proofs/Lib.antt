pub mod Sorting
mod Ranks
mod Turns
