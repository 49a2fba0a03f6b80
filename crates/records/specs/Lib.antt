-- What reading into a list of arc records answers.
pub mod Reading
-- What is proved about them.
pub mod Laws
