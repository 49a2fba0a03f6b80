-- What is proved about the definitions.
pub mod Stored
pub mod Writing
