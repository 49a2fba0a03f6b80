pub mod Links
pub mod Progress
pub mod Branches
pub mod Holding
-- What is proved about them.
pub mod Laws
