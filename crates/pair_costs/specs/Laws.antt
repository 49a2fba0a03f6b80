-- What is proved about the definitions.
pub mod Pairs
pub mod PairCosts
