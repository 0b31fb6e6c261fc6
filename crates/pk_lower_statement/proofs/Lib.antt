pub mod FormLemmas
pub mod StepLemmas
pub mod NameLemmas
