-- Weights of arcs, rows of least weights by relaxing arcs, and the path that a column of them gives.
pub mod Weight
pub mod Relaxation
pub mod Columns
pub mod StepContracts
-- What is proved about them.
pub mod Laws
