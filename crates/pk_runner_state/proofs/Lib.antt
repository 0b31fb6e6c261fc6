pub mod ProgramLemmas
pub mod ObjectLemmas
pub mod ValueLemmas
pub mod RowLemmas
