pub mod StateBytes
-- What is proved about them.
pub mod Laws
