-- What is proved about the definitions.
pub mod Runs
pub mod Number
pub mod Turned
pub mod Sound
pub mod Led
pub mod Finished
pub mod Drive
pub mod Theorem
