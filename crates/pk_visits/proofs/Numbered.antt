-- From graphs over slots to graphs by number.
pub mod Edges
pub mod Stores
pub mod Copies
pub mod Runs
pub mod Computes
pub mod Starts
pub mod Visits
pub mod Turns
pub mod Names
pub mod Rows
pub mod Forms
pub mod Expressions
pub mod Statements
pub mod Loops
pub mod Switches
pub mod ForLoops
pub mod Parts
