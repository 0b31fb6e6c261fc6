pub mod Shapes
pub mod Contexts
pub mod Rows
pub mod Views
pub mod Joins
