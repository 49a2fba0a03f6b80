-- Lists of arc records: stores into a list, and what writing takes from one.
pub mod Stored
pub mod Writing
-- What is proved about them.
pub mod Laws
