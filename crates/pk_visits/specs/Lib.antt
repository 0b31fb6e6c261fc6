pub mod GraphVisits
pub mod Turns
pub mod Turning
pub mod SameVisits
pub mod NeverStuck
