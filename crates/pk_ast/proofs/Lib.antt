mod Examples
pub mod ListLemmas
pub mod ViewLemmas
