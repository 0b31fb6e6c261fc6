pub mod Constants
pub mod Laws
pub mod Names
