pub mod Computed
pub mod Evaluated
