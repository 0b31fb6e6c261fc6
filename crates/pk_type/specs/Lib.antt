pub mod Signatures
pub mod Files
pub mod Functions
pub mod TypeNames
pub mod Units
pub mod Rules
pub mod Views
pub mod Laws
