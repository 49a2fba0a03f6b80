-- The rounds, and what is kept of them.
pub mod Rounds
pub mod Trial
-- What is proved about them.
pub mod Laws
