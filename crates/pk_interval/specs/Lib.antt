pub mod Ranges
pub mod Operators
pub mod Fitting
pub mod Widening
pub mod Laws
