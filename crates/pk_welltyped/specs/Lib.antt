pub mod Listed
pub mod WellTyped
pub mod Marks
