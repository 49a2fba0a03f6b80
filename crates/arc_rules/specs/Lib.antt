-- What is refused of arcs by their records.
pub mod Fields
pub mod Arcs
-- What is proved about them.
pub mod Laws
