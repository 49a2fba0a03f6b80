-- What is proved about the definitions.
pub mod Turns
pub mod Lawful
pub mod Steps
