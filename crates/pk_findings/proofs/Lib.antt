pub mod PieceLemmas
mod GatherLemmas
mod WithinLemmas
