pub mod Preorders
pub mod Numbering
pub mod Typed
pub mod Ways
pub mod Rows
