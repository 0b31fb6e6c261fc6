pub mod Waits
pub mod Steps
pub mod Progress
pub mod Texts
