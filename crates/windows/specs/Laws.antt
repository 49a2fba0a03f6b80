-- What is proved about the definitions.
pub mod Call
pub mod Theorem
