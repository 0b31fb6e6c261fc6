mod PointByPoint
mod Determined
mod Telling
pub mod Reporting
