-- The number of trees of few components, by closed forms, and capped totals.
pub mod Recursion
pub mod Arrival
pub mod Matrix
pub mod ClosedForm
pub mod Laws
