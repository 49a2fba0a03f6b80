-- What is proved about the definitions.
pub mod Call
pub mod Own
pub mod Theorem
