pub mod Tropical
pub mod Cells
pub mod Bars
pub mod Matrices
pub mod Written
pub mod Clearing
pub mod Points
pub mod Tabled
pub mod Half
pub mod Blanks
pub mod Pair
mod Spots
