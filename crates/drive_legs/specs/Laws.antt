-- What is proved about them.
pub mod Sum
pub mod Units
pub mod Cut
pub mod Legs
pub mod Few
pub mod Drive
pub mod Filled
pub mod Noted
pub mod Laid
