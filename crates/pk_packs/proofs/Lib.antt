mod MarkLemmas
mod FirstLemmas
mod EdgeLemmas
mod ComponentLemmas
mod EndLemmas
mod BoundLemmas
pub mod PackLemmas
