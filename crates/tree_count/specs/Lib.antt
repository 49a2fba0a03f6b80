-- What the functions compute.
pub mod Entries
-- What is proved about it.
pub mod Laws
