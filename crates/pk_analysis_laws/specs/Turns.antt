pub mod Ended
pub mod Counted
