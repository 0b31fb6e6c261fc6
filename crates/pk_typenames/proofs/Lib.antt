mod ScanLemmas
mod PlaceLemmas
pub mod LawLemmas
