pub mod ShapeLemmas
pub mod ContextLemmas
