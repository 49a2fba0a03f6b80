-- What is proved about the definitions.
pub mod PlanUpdate
pub mod Writing
pub mod Reread
