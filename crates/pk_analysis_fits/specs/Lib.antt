pub mod Orders
pub mod Systems
pub mod Analyses
