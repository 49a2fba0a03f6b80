-- Arcs as numbers.
pub mod Packed
-- What is proved about them.
pub mod Laws
