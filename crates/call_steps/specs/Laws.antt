-- What is proved about them.
pub mod Idle
pub mod Refused
pub mod Answer
pub mod Call
pub mod Chain
