pub mod Analyses
pub mod Answers
pub mod Rooms
pub mod Limits
pub mod Certificates
