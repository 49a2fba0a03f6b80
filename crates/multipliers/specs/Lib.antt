pub mod Drive
pub mod Prepared
pub mod Ascent
pub mod Climbs
-- What is proved about them.
pub mod Laws
