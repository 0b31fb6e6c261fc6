pub mod Small
mod TableLemmas
pub mod Whole
pub mod Wrapped
pub mod Values
pub mod Operator_values
pub mod Bits
pub mod Back
pub mod Shifts
pub mod Quotients
pub mod Faulting
pub mod Common
