pub mod Places
pub mod Findings
pub mod Functions
pub mod Loops
pub mod Source
pub mod Marks
pub mod Pages
pub mod Laws
