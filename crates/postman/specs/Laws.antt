-- Laws of all tests and lists. What is proved about the definitions themselves stands in `proofs/` and in the crate `postman_laws`.
pub mod Tests
pub mod Membership
