-- What is proved about the definitions.
pub mod Answer
pub mod Laid
pub mod Call
pub mod Compared
pub mod Theorem
