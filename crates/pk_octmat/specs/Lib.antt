pub mod Bounds
pub mod Packed
pub mod Octagon
pub mod Half
pub mod Laws
pub mod Shapes
