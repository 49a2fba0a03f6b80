-- What is proved about the definitions.
pub mod Iterates
pub mod Edmonds
pub mod Circle
pub mod CostMatrix
pub mod Solve
