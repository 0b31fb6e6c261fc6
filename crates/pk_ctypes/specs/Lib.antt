pub mod Types
pub mod Conversions
pub mod Classes
pub mod Operators
pub mod Laws
pub mod Places
pub mod Words
pub mod Spellings
