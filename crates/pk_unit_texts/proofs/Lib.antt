mod Spelling
mod Standing
pub mod Texts
