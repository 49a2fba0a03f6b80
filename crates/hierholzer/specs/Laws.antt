-- What is proved about the definitions.
pub mod Lists
pub mod Counting
pub mod Search
pub mod Unused
pub mod Circuit
pub mod Held
pub mod Hints
