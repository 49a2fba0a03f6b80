-- What is proved about the definitions.
pub mod Answer
pub mod Answered
pub mod RaisedBudget
pub mod SameAnswer
