pub mod Mentions
pub mod Types
pub mod Typed
pub mod Rules
pub mod Views
pub mod Forms
pub mod Laws
