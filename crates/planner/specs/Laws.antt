-- What is proved about the definitions.
pub mod LongFile
pub mod Whole
pub mod Theorem
