pub mod Pointwise
pub mod Counting
pub mod Sound
pub mod Along
pub mod Kept
pub mod Crossed
