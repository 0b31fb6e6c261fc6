pub mod Within
pub mod Steps
pub mod Static
pub mod Folded
