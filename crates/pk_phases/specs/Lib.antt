pub mod Table
pub mod Values
pub mod Turns
pub mod Equations
pub mod EquationsHeld
pub mod Solved
pub mod Planned
