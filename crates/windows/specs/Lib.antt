-- The plan call at a departure.
pub mod Contract
-- What is proved about it.
pub mod Laws
