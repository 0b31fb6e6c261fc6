pub mod Naming
pub mod Tops_of
pub mod Counting
pub mod Positions
pub mod Going
pub mod Edges
