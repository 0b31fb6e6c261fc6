pub mod Checks
pub mod Statements
pub mod Trees
pub mod Rules
pub mod Items
pub mod Numbers
pub mod Views
