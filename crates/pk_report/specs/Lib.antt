pub mod Paths
pub mod Values
pub mod Reports
