-- The legs of a drive.
pub mod Legs
pub mod Drive
pub mod Filled
pub mod Laws
