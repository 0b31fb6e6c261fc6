pub mod Tight
pub mod Parts
pub mod Points
