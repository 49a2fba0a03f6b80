-- What is proved about the definitions.
pub mod Direct
pub mod Idle
pub mod DirectBalance
pub mod Plan
pub mod Among
