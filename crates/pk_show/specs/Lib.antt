pub mod Pieces
pub mod Rows
pub mod Reading
pub mod Paths
pub mod Reports
pub mod Laws
