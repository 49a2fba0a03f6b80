-- What is proved about the definitions.
pub mod Fold
pub mod Fill
pub mod Search
pub mod Relax
pub mod Turns
pub mod Until
