pub mod Selection
pub mod Holds
pub mod Places
pub mod Ends
pub mod Candidates
pub mod LaidOut
