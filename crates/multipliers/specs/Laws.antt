-- What is proved about the definitions.
pub mod Drive
pub mod Lay
pub mod Table
pub mod Solve
pub mod Root
pub mod Ascent
pub mod Climb
