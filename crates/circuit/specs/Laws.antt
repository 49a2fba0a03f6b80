-- What is proved about the definitions.
pub mod Description
pub mod Completion
pub mod Written
