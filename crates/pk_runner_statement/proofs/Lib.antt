pub mod StatementLemmas
pub mod FoundLemmas
