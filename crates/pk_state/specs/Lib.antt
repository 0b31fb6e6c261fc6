pub mod Layouts
pub mod Facts
pub mod Marks
pub mod Reduced
pub mod Members
pub mod Changes
