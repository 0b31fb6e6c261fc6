mod ArrowLemmas
mod DigraphLemmas
mod PartLemmas
mod ReadLemmas
pub mod TypedLemmas
mod StartLemmas
mod FlowLemmas
mod NowhereLemmas
pub mod OrderLemmas
mod StateLemmas
pub mod Layouting
pub mod Shared
