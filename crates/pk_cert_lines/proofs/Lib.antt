pub mod Spacing
mod Parting
mod Telling
