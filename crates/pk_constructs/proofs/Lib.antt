pub mod TableLemmas
pub mod ScanLemmas
pub mod DeterminedLemmas
