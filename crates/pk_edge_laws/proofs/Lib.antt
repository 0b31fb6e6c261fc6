pub mod Goes
pub mod Rows
pub mod Expressions
pub mod Statements
