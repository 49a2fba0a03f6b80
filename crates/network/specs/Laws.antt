-- What is proved about the definitions.
pub mod Ways
pub mod Thinning
pub mod Vertices
pub mod CutOff
pub mod LinkPair
