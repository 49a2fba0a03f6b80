-- What is proved about them.
pub mod Arrival
pub mod Choices
pub mod Recursion
pub mod Matrix
pub mod Counts
pub mod ClosedForm
