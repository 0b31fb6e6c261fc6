pub mod Frames
pub mod Outers
pub mod Ends
