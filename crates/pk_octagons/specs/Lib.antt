pub mod Packs
pub mod Values
pub mod Octagons
pub mod Changes
pub mod Reduced
pub mod Members
pub mod Turns
pub mod Laws
