pub mod CommandLine
pub mod Given
pub mod Found
pub mod Laws
