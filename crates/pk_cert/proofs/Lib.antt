mod Stops
mod Digits
mod SymbolLemmas
pub mod Sequences
mod Parts
mod Every
mod Heading
mod EveryHead
pub mod Lines
mod EveryLine
