pub mod Numbers
pub mod Outermost
pub mod Walking
pub mod Rising
pub mod Members
pub mod Over
pub mod Sweeping
pub mod Nearby
