pub mod Causes
pub mod Written
pub mod Checked
pub mod Laws
