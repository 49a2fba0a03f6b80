-- What is proved about the definitions.
pub mod Round
pub mod Held
