-- Tactics for the integers.
pub mod Linear
