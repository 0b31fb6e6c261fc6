pub mod Told
pub mod Reached
pub mod ToldOfPrograms
pub mod TrueOfPrograms
pub mod Holding
pub mod Points
pub mod Faultless
