pub mod Bounds
pub mod Fold
pub mod Search
pub mod Until
pub mod Step
pub mod Found
pub mod Lengths
-- What is proved about them.
pub mod Laws
