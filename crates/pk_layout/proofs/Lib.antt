pub mod Lists
pub mod Counting
pub mod Giving_more
pub mod Laying
pub mod Existing
