pub mod Turn_ranks
pub mod Equation_turns
pub mod Stable_phases
pub mod Solved_end
pub mod Planned_turns
pub mod Inputs_held
