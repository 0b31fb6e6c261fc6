mod TextLemmas
pub mod MarkLemmas
mod WayLemmas
mod ProgramLemmas
mod WalkLemmas
mod EndLemmas
