-- What is proved about the definitions.
pub mod Taking
pub mod FieldUpdate
