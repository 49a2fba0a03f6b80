-- What is proved about the definitions.
pub mod Call
pub mod Asked
pub mod History
pub mod Theorem
