pub mod Cells
pub mod Reading
pub mod Laws
