-- A budget is checked once, where it is made.
use Rattle.std.specs.Prelude.{cond, ℕ, ◌≤◌, Result, Ok, Err}
use Rattle.postman.specs.PlanFile.{is_outside}
use Rattle.postman.specs.PlanCall.{highest_budget}
use Rattle.budget.specs.declared.Budget.{Budget}
use Rattle.refusal.specs.declared.Refusal.{Refusal}

-- 9 budget: "0 or above 1,000,000".
unfoldable pub checked_of : ℕ → Result Budget Refusal
unfolding is_outside highest_budget
checked_of n = cond (is_outside n 1 highest_budget) (Err Refusal.Budget) (Ok (record { trees = n }))

-- What holds of every budget that was let through.
pub record InRange (b : Budget) : Type 0 where
  pub low : 1 ≤ b.trees
  pub high : b.trees ≤ highest_budget
