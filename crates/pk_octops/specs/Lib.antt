pub mod Tables
pub mod Guards
pub mod Assigns
pub mod Values
pub mod Chains
pub mod Laws
