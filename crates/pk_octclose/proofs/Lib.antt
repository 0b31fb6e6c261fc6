pub mod Walks
mod Whole
mod Pairs
mod Twice
pub mod Lengths
mod Rows
pub mod Sums
pub mod Halves
pub mod Turned
pub mod Members
pub mod Closed
pub mod Triangle
pub mod Again
pub mod Floyd
pub mod Stays
mod Uncapped
mod Best
pub mod Same
mod Lined
mod Lowered
mod Forgotten
mod Swept
