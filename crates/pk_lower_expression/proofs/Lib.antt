pub mod WayLemmas
pub mod CallLemmas
pub mod ArmLemmas
