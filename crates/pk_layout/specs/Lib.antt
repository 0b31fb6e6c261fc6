pub mod Layouts
pub mod Wirings
pub mod Gathered
pub mod Exists
