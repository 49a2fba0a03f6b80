-- The budget type.
pub mod Checks
pub mod Laws
