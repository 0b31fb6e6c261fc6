pub mod Lists
pub mod Names
pub mod Operators
pub mod Places
pub mod Trees
pub mod Views
