-- The open plan by value.
pub mod State
pub mod Contract
pub mod Run
-- What is proved about it.
pub mod Laws
