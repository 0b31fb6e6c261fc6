pub mod Declarations
pub mod Failures
pub mod Notes
pub mod Scopes
pub mod Specifiers
