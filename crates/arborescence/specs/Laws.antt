-- What is proved about the definitions.
pub mod Reach
pub mod Stop
pub mod Candidates
