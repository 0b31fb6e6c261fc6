pub mod Bounded
pub mod Listed
pub mod Reached
pub mod Telling
pub mod Faultless
pub mod Checking
