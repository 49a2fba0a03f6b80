-- An entry into a machine of districts.
pub mod Admitted
pub mod Entered
pub mod Laws
