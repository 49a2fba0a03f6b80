-- What the plan call answers.
pub mod Contract
-- What is proved about them.
pub mod Laws
