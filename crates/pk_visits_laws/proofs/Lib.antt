pub mod Followed
pub mod Ways
mod Same
pub mod Settings
mod Turned
pub mod Listed
