-- What the contracts cite: the entries that a search puts, and the call's answer.
pub mod Filling
pub mod Answer
-- What is proved about them.
pub mod Laws
