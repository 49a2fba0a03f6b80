pub mod Preparation
pub mod Prepared
-- What is proved about it.
pub mod Laws
