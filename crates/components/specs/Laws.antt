-- What is proved about the definitions.
pub mod Labels
pub mod Roots
