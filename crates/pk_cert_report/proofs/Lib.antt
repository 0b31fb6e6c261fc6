pub mod Deciding
mod Judging
mod Reducing
