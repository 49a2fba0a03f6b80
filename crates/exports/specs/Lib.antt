-- How plan files and records cross the border to other languages.
pub mod Call
pub mod Cars
-- What is proved about them.
pub mod Laws
