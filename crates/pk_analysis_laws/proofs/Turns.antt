pub mod BegunClasses
pub mod Cells
pub mod Ending
pub mod Counting
pub mod Limits
