-- The functional model of the code.
pub mod Relax
pub mod Step
pub mod Records
-- What is proved about it.
pub mod Laws
