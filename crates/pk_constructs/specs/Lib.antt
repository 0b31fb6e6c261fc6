pub mod Constructs
pub mod Tables
