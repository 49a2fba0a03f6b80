-- What is proved about them.
pub mod Reading
pub mod Writing
