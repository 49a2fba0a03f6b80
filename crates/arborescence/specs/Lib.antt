pub mod BitSet
pub mod Reach
pub mod Sources
pub mod Candidates
pub mod Layout
-- What is proved about them.
pub mod Laws
