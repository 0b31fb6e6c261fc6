pub mod ItemLemmas
pub mod LabelLemmas
pub mod JumpLemmas
