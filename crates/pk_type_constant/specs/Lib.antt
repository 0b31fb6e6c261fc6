pub mod Forms
pub mod Constants
