pub mod Levels
pub mod PlanLemmas
pub mod DigraphLemmas
pub mod Drawing
pub mod NestPlaceLemmas
pub mod Shapes
pub mod Apart
