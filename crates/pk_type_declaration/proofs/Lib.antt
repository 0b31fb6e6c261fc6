pub mod ListLemmas
mod InitializerLemmas
pub mod ItemLemmas
pub mod PartLemmas
pub mod DeclaratorLemmas
mod StartLemmas
mod StaticLemmas
mod EnumerationLemmas
pub mod BareLemmas
