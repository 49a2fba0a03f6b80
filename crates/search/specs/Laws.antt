-- What is proved about the definitions.
pub mod Kept
pub mod Explore
pub mod Last
pub mod Tried
