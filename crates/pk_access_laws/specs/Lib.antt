pub mod Operators
pub mod Kept
pub mod Laws
