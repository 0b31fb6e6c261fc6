pub mod ReportRows
pub mod Tellable
pub mod Laws
