pub mod Places
pub mod Lexing
pub mod Constructs
pub mod Parsing
pub mod Ends
