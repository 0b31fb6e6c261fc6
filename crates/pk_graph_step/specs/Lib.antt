pub mod GraphSteps
pub mod Laws
pub mod Beginnings
