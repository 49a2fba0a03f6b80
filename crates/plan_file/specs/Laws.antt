-- What is proved about the definitions.
pub mod Records
pub mod Reading
pub mod Room
