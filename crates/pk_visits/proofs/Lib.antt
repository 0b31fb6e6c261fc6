pub mod Slots
pub mod Stands
pub mod Stores
pub mod Follow
pub mod Doom
pub mod Computed
pub mod Computing
pub mod Stages
pub mod Operands
pub mod Calling
pub mod Cases
pub mod Switches
pub mod Journeys
pub mod Settled
pub mod Grows
mod Steps
pub mod Numbered
