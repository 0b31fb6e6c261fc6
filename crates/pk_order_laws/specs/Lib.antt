pub mod Nests
pub mod Plans
pub mod Orders
pub mod Digraphs
