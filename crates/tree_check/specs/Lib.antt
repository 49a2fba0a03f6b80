-- Whether links that are held are a tree, and what it costs.
pub mod Tree
pub mod Cost
pub mod Laws
