pub mod Runs
pub mod Programs
