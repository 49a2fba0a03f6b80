-- What is proved about the definitions.
pub mod Prefix
pub mod Records
pub mod Rows
pub mod Made
