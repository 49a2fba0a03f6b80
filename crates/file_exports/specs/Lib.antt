-- What other languages call for a file alone: reading, writing, the number of trees, distances and judging.
pub mod Codec
pub mod Laws
