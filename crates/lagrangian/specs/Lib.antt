-- L(u) from R, D and u, and the floor.
pub mod Price
pub mod Priced
pub mod Laws
