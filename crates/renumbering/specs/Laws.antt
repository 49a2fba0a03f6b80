-- What is proved about the definitions.
pub mod Numbering
pub mod Renumbered
pub mod Shuffle
