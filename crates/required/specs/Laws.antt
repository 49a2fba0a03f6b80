-- What is proved about the definitions.
pub mod RequiredSum
pub mod Search
pub mod RequiredVertex
