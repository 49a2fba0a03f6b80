-- The machine, its calls, and what they lead to.
pub mod Number
pub mod Turned
pub mod Led
pub mod Served
pub mod Finished
-- What is proved about them.
pub mod Laws
