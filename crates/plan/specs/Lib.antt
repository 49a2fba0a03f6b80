-- A plan by value and what it stands for; an arc's standing.
pub mod Records
pub mod GoodPlan
pub mod Rows
pub mod Standings
-- What is proved about them.
pub mod Laws
