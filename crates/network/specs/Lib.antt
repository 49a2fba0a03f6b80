-- What the functions give back, and the models that they compute.
pub mod Network
pub mod Thinning
pub mod CutOff
-- What is proved about them.
pub mod Laws
