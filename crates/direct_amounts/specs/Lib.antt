pub mod Direct
-- What is proved about them.
pub mod Laws
