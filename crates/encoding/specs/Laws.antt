-- What is proved about the definitions.
pub mod RecordBytes
pub mod NumberBytes
