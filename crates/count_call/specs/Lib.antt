-- What the call answers.
pub mod Contract
-- What is proved about it.
pub mod Laws
