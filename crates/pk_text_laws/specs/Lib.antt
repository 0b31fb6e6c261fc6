pub mod Names
pub mod Total
