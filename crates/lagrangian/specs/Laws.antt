-- What is proved about them.
pub mod Price
pub mod Bound
