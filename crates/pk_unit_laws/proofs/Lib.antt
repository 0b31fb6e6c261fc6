pub mod Names
mod Parts
mod Expressions
mod Walks
mod Statements
pub mod Places
pub mod Derived
