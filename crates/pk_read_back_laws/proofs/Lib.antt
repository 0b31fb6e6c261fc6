pub mod BoundLemmas
pub mod VerdictLemmas
mod LayoutLemmas
pub mod StateLemmas
pub mod ReadBackLemmas
