pub mod Counts
pub mod Listed
pub mod Statements
pub mod Targets
pub mod Units
