-- A car's marks, and its plan.
pub mod Laws
