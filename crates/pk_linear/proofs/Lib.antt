pub mod ListLemmas
pub mod StepLemmas
pub mod LevelLemmas
mod WaitLemmas
mod LookLemmas
pub mod SpellLemmas
pub mod Determined
mod TurnLemmas
mod KnownLemmas
mod TextLemmas
