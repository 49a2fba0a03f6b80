-- Document 01's number of each refusal, and the number that a verdict gives.
pub mod Verdict
pub mod Laws
