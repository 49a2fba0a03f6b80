-- What is lent again.
pub mod Lent
pub mod LentTurns
pub mod ToldTurns
pub mod Opening
-- What two calls leave.
pub mod OneAnswer
pub mod CarNumber
-- The three demands, of any answer.
pub mod Demands
pub mod Equal
-- What the other calls answer, by their refusals.
pub mod File
pub mod Counted
pub mod Page
pub mod Judged
pub mod Districts
pub mod Codec
pub mod Slices
pub mod OneAnswerTheorem
pub mod HistoryTheorem
pub mod AskedTheorem
pub mod TurnsTheorem
pub mod JudgedTheorem
pub mod WindowsTheorem
pub mod CarsTheorem
pub mod BudgetTheorem
