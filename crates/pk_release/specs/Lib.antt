pub mod Kept
pub mod In_order
pub mod Laws
