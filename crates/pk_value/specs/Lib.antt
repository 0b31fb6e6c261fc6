pub mod Reduction
pub mod Known
pub mod Values
pub mod Laws
