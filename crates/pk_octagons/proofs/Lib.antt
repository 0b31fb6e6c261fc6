pub mod Octs
pub mod Closings
pub mod Places
pub mod Lists
mod Points
mod Placing
pub mod Zips
pub mod Overs
pub mod Sound
pub mod Resting
mod Least
pub mod Bounding
mod Closed
pub mod Stay
pub mod One
pub mod Numbers
pub mod Chosen
