pub mod Planned
pub mod Concluded
pub mod RaisedBudget
pub mod SameAnswer
-- What is proved about them.
pub mod Laws
