pub mod Verdicts
pub mod Typed
