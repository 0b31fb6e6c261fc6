pub mod Languages
pub mod Grammar
pub mod Names
pub mod Outcomes
pub mod Machine
