pub mod FailureLemmas
pub mod FirstLemmas
pub mod ScopeLemmas
