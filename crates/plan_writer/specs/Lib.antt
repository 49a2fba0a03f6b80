pub mod PlanUpdate
pub mod Writing
pub mod Reread
-- What is proved about them.
pub mod Laws
