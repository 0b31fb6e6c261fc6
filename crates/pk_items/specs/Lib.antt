pub mod Items
pub mod Tops
pub mod Over
pub mod Sweeping
pub mod Laws
