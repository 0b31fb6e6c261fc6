mod ConditionLemmas
mod OrderLemmas
pub mod Determined
