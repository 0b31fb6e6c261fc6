mod ByCells
mod Items
pub mod Shared
