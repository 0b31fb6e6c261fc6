pub mod Called
pub mod Steps
pub mod Laws
pub mod Listed
