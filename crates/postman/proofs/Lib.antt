-- What is proved about the definitions beside them: the worked cases, what a numbering is, and when an arc is repeated.
pub mod Cases
pub mod Numbering
pub mod Repeated
