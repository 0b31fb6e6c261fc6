pub mod Beginnings
pub mod Rows
pub mod Heads
pub mod Certificates
pub mod Pieces
pub mod Laws
