pub mod TypedLemmas
pub mod KeptLemmas
pub mod StoreLemmas
pub mod EdgeLemmas
