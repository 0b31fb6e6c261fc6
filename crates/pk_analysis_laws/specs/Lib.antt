pub mod Ranks
pub mod Systems
pub mod Turns
