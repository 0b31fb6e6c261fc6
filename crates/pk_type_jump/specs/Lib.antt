pub mod Labels
pub mod Jumps
pub mod Views
