pub mod DraftLemmas
pub mod FoldingLemmas
