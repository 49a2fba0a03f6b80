-- What is proved about the definitions.
pub mod Tables
pub mod Kept
pub mod Made
pub mod Driven
