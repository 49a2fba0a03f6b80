-- What the calls over a lent state answer to callers in other languages.
pub mod Turns
-- What is proved about them.
pub mod Laws
