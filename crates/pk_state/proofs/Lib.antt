pub mod Lists
pub mod Reds
pub mod Bounded
pub mod Sound
pub mod Stays
pub mod Settled
pub mod Held
pub mod Tops
pub mod Changed
pub mod Loose
mod Rows
