pub mod Staying
pub mod Ranked
