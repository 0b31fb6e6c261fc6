pub mod CaseLemmas
mod FormLemmas
pub mod ItemLemmas
pub mod KeepLemmas
pub mod WalkLemmas
pub mod BareLemmas
