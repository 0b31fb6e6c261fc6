mod PathLemmas
mod TextLemmas
mod RowLemmas
mod OrderLemmas
mod WrongLemmas
pub mod TellableLemmas
