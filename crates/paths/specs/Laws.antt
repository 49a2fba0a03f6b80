-- What is proved about the definitions.
pub mod Rank
pub mod CheapestPath
pub mod ShortestPath
pub mod PathWriting
pub mod Lookup
pub mod Leaving
