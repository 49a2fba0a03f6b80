-- What the contracts cite.
pub mod Reading
-- What is proved about them.
pub mod Laws
