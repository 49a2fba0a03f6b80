pub mod Turns
pub mod Steps
pub mod Lawful
-- What is proved about them.
pub mod Laws
