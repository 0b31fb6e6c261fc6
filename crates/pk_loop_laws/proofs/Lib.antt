pub mod Derived
pub mod Statements
pub mod Functions
