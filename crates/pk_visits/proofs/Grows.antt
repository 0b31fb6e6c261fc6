-- What the lowering adds to a draft.
pub mod Rows
pub mod Expressions
pub mod Statements
pub mod Parts
