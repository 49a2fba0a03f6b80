pub mod DistrictTurn
-- What is proved about them.
pub mod Laws
