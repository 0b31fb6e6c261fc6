pub mod Walks
pub mod Statics
pub mod Statements
pub mod Files
pub mod Answers
