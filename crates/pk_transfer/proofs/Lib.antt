pub mod Told
pub mod Refining
pub mod Slotting
pub mod Spreading
mod Smalls
mod EachLemmas
pub mod Apart
mod ByPack
pub mod Forms
pub mod Assigning
pub mod Passing
pub mod Transferring
pub mod Few
pub mod Over
pub mod Operands
pub mod LayoutLemmas
pub mod Layouting
pub mod Keeping
