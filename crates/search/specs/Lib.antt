-- What is given, and what is answered.
pub mod StepContracts
-- What is proved about them.
pub mod Laws
