pub mod PieceLemmas
mod AccessLemmas
pub mod ToldLemmas
pub mod LineLemmas
pub mod PathLemmas
pub mod RowLemmas
pub mod RowsToldLemmas
pub mod ReportLemmas
