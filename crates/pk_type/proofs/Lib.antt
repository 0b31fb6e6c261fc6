pub mod FileLemmas
mod TypeNameLemmas
pub mod SignatureLemmas
pub mod PlaceLemmas
pub mod UnitLemmas
pub mod FunctionLemmas
pub mod BareLemmas
