-- What is proved about the definitions.
pub mod HeldTree
pub mod DistrictTurn
pub mod Holding
