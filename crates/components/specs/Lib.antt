pub mod Labels
-- What is proved about them.
pub mod Laws
