-- What is proved about the definitions.
pub mod BestTree
pub mod Begun
pub mod Resumed
pub mod Compared
pub mod Improved
