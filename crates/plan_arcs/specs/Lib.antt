-- What is proved about the fields of an arc.
pub mod Laws
