pub mod Objects
pub mod Rules
pub mod Results
pub mod Texts
pub mod Logs
