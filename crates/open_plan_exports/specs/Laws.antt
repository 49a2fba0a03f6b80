-- What is proved about them.
pub mod Editing
