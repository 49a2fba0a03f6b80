-- What is proved about them.
pub mod Tree
pub mod Cost
