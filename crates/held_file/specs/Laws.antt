-- What is proved about the definitions.
pub mod Padded
pub mod Held
pub mod Change
pub mod Read
