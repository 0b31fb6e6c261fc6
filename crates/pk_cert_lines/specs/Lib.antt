pub mod Symbols
pub mod Told
