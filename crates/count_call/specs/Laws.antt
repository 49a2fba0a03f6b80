pub mod Call
pub mod Theorem
