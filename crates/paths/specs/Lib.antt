pub mod ShortestPath
pub mod Leaving
-- What is proved about them.
pub mod Laws
