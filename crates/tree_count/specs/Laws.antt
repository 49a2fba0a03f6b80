pub mod Plan
pub mod Entries
