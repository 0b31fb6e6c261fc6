pub mod Parts
pub mod Paths
pub mod Answers
pub mod Graphs
