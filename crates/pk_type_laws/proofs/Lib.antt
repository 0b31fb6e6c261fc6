mod Answered
pub mod Accepted
pub mod Bodies
mod Marked
