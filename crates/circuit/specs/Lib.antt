-- The circuit of some legs, the legs of a plan, and the drive that they make.
-- What the code holds on the way.
-- What is proved about them.
pub mod Laws
