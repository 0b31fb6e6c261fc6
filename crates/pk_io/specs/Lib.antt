pub mod Causes
pub mod MemSink
pub mod MemSource
pub mod Memory
pub mod Rest
pub mod Standard
pub mod Turns
