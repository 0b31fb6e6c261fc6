pub mod Merging
pub mod Flat
