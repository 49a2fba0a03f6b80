-- Numberings by value.
pub mod Numbering
pub mod Shuffle
-- What a plan call is made with under one of them.
pub mod Renumbered
-- What is proved about them.
pub mod Laws
