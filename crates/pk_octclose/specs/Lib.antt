pub mod Walks
pub mod Closing
pub mod Laws
pub mod Places
pub mod Pairs
pub mod After
pub mod Same
pub mod Steps
