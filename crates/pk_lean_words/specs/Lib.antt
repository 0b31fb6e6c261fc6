pub mod Emptied
pub mod Members
pub mod Laws
