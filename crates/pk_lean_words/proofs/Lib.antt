pub mod Overs
pub mod Lean_steps
pub mod Last_runs
pub mod Item_slots
pub mod Lean_takes
pub mod Item_ends
pub mod Lean_ends
pub mod Letting_go
