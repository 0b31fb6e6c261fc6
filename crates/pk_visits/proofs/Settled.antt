-- Declarations, marks and names in scope in bodies that are lowered.
pub mod Trees
pub mod Bodies
pub mod Shown
pub mod Parameters
