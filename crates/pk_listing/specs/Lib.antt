pub mod Places
pub mod Sources
pub mod Invariants
pub mod Listing
