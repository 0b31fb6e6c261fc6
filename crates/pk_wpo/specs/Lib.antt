pub mod Constraints
pub mod Made
pub mod Layouts
pub mod Walks
pub mod Targets
pub mod Edges
pub mod Same
