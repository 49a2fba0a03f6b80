pub mod Cheapest
pub mod CostMatrix
-- What is proved about them.
pub mod Laws
