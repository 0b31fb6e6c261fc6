pub mod Parts
pub mod Labels
pub mod Statements
pub mod Starts
pub mod Units
