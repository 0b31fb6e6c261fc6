pub mod Weights
pub mod Falling
pub mod Pausing
pub mod Edges
pub mod Backward
pub mod Failing
pub mod Beginning
pub mod Same
