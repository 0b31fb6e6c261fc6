pub mod Accesses
pub mod Pieces
pub mod Joined
pub mod Reports
