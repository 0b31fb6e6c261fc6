mod PointLemmas
mod AccessLemmas
mod MarkLemmas
mod FirstLemmas
mod ScopeLemmas
mod VisibleLemmas
pub mod ChosenLemmas
