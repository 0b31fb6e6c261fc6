pub mod Summing
pub mod Tokens
pub mod Prepared
