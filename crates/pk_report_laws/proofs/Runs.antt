pub mod Telling
pub mod Checked
