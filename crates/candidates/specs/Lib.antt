-- What the functions compute.
pub mod Holds
pub mod Places
pub mod LaidOut
-- What is proved about it.
pub mod Laws
