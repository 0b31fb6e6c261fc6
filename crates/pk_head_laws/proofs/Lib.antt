mod Walked
mod Numbered
mod Entries
pub mod Drafts
pub mod Heads
