-- What the rounds are made over, and what is held.
pub mod Held
-- What is proved about them.
pub mod Laws
