pub mod Accessing
