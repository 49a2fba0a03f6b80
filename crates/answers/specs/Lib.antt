pub mod Number
pub mod FileNumber
pub mod Answer
pub mod Count
pub mod CarsNumber
-- What is proved about them.
pub mod Laws
