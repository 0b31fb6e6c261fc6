pub mod Objects
pub mod Programs
pub mod Work
pub mod Steps
pub mod Runs
pub mod Endings
