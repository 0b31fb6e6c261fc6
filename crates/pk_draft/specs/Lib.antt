pub mod Drafts
pub mod Folding
pub mod Answers
pub mod Shown
