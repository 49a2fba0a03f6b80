pub mod Branch
pub mod Bound
pub mod Prepared
pub mod Pricing
pub mod Reducible
pub mod Fields
-- What is proved about them.
pub mod Laws
