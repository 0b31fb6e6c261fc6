mod Rows
mod Taken
mod Settings
pub mod Asking
mod Adding
