pub mod Derived
pub mod Expressions
pub mod Parts
pub mod Walks
pub mod Statements
pub mod Calls
pub mod Functions
