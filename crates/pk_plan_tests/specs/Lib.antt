pub mod Counting
pub mod Counting_laws
pub mod Rows
