pub mod Padded
pub mod Held
pub mod Change
-- What is proved about them.
pub mod Laws
