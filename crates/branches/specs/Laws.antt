-- What is proved about the definitions.
pub mod Progress
pub mod Start
pub mod Below
pub mod Root
