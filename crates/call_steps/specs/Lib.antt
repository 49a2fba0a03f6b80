-- What calls share: 8 and 9, then 10 to 12 and the answer of a plan that was read.
pub mod Refusals
pub mod Refused
pub mod Tabled
pub mod Laws
