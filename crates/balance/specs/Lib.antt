-- Amounts, potentials and what makes them least.
pub mod Optimality
-- The functional model of the code.
pub mod Multipliers
pub mod Balance
pub mod Records
-- What the model keeps.
pub mod Invariant
-- What is proved about them.
pub mod Laws
