pub mod FunctionLemmas
pub mod PartLemmas
pub mod SizeLemmas
pub mod ProgramLemmas
