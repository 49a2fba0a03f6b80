-- What is proved about the definitions.
pub mod Answer
pub mod CarsNumber
