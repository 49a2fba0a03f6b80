-- What is proved about the definitions.
pub mod LastArc
pub mod Weight
pub mod Relaxation
pub mod Columns
pub mod Roads
