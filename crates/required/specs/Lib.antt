pub mod StepContracts
pub mod RequiredSum
-- What is proved about them.
pub mod Laws
