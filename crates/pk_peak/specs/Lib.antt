pub mod Items
pub mod Peak
pub mod Readers
pub mod Stretches
pub mod Texts
