-- What is proved about the definitions.
pub mod Limits
pub mod Shut
