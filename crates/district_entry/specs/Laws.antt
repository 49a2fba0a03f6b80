-- What is proved about them.
pub mod Line
pub mod Entered
