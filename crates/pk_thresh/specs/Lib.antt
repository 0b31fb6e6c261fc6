pub mod Thresholds
pub mod Chains
pub mod Near
