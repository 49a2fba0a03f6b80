pub mod Circuit
pub mod Eulerian
pub mod Held
-- What is proved about them.
pub mod Laws
