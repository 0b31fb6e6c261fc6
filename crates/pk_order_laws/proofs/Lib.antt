mod Told
mod Picking
mod Reaching
pub mod Nesting
mod Graphs
mod Laying
pub mod Drawing
mod Telling
mod Candidates
mod Backs
mod Turning
pub mod Placing
pub mod Ordering
