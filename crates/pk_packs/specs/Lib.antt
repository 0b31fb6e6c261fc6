pub mod Belongs
pub mod Packs
pub mod Ends
pub mod Chains
pub mod Laws
