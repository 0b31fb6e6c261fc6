pub mod Escapes
pub mod Tags
pub mod Parts
pub mod Laws
