-- What is proved about the definitions.
pub mod Branch
pub mod Prepared
pub mod Bound
pub mod Rest
pub mod Levelled
