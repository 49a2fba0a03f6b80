pub mod Offers
pub mod Tree
-- What is proved about them.
pub mod Laws
