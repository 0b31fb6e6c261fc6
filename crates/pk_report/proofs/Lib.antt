pub mod WriteLemmas
pub mod PathLemmas
pub mod OctagonLemmas
pub mod PointLemmas
pub mod AccessLemmas
