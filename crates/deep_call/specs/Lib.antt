-- The deep call.
pub mod Refusals
pub mod Contract
pub mod Compared
-- What is proved about it.
pub mod Laws
