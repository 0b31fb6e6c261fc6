pub mod Jumps
pub mod Edges
