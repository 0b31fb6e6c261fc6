mod Parts
mod Room
mod Placed
mod Attained
pub mod Near
mod Reached
pub mod Best
mod Numbers
