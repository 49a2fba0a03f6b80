pub mod Fields
-- What is proved about the definitions.
pub mod Laws
