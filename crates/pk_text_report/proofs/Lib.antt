pub mod Answering
mod Ending
