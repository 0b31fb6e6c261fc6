pub mod Calls
pub mod Walk
pub mod Forests
pub mod Paths
pub mod CallPaths
pub mod Answers
pub mod Frames
pub mod Laws
