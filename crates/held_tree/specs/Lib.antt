-- What a search finds.
pub mod Cheaper
-- What is proved about it.
pub mod Laws
