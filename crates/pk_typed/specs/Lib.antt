pub mod Defaults
pub mod Limits
pub mod Trees
pub mod Types
pub mod Views
