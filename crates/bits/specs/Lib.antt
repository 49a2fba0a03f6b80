-- What the contracts cite.
pub mod Taking
pub mod FieldUpdate
-- What is proved about them.
pub mod Laws
