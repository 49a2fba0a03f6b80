pub mod Begun
pub mod Resumed
pub mod Improved
-- What is proved about them.
pub mod Laws
