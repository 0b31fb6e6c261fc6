pub mod Texts
pub mod Operations
pub mod Grouping
pub mod Words
pub mod Messages
pub mod Shown
pub mod Lengths
pub mod Refused
