pub mod Answered
pub mod Accepted
pub mod Bodies
pub mod Marked
