pub mod Classes
pub mod Operators
pub mod Laws
