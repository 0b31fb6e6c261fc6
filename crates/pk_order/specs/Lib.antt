pub mod Condition
pub mod Ordered
