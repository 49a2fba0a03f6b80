-- What is proved about them.
pub mod Places
pub mod Faults
pub mod Tally
