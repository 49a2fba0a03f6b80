pub mod Pairs
pub mod PairCosts
-- What is proved about them.
pub mod Laws
