-- What is proved: duality, the search, the step and the arcs, the multipliers, the direct amounts, and what all of it says of a plan.
pub mod Duality
pub mod Augment
pub mod Step
pub mod Arcs
pub mod Multipliers
pub mod Repriced
