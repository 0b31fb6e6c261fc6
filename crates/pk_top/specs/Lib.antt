pub mod Headline
pub mod Holding
pub mod Truth
