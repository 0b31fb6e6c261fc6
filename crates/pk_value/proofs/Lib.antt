pub mod Reducing
pub mod Sound
pub mod Narrowing
pub mod Orders
pub mod Tight
