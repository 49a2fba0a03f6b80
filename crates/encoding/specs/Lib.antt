pub mod RecordBytes
pub mod NumberBytes
-- What is proved about them.
pub mod Laws
