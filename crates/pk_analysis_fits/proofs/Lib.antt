pub mod Behind
pub mod Placed_tasks
pub mod Scheduling
pub mod Analysing
