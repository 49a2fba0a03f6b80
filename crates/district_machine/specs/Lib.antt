-- The machine of districts by value, and the places of its line.
pub mod Places
pub mod Machine
pub mod Laws
