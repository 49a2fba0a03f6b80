-- What a test of a budget says. A number is outside its limits, or is not, by cases on the two tests.
use Rattle.std.specs.Prelude.{◌≡◌, ℕ, ◌≤◌, ◌<◌, ltb, Ok, Err}
use Rattle.std.proofs.Math.Bool.{or-true}
use Rattle.std.proofs.Common.{arith, lt-ltb, le-ltb}
use Rattle.postman.specs.PlanFile.{is_outside}
use Rattle.postman.specs.PlanCall.{highest_budget}
use Rattle.refusal.specs.declared.Refusal.{Refusal}
use Rattle.budget.specs.Checks.{checked_of}

pub too_low : (n : ℕ) → n ≡ 0 → Err Refusal.Budget ≡ checked_of n
unfolding checked_of
too_low n e = let t = lt-ltb n 1 (omega arith) in rw t

pub too_high : (n : ℕ) → highest_budget < n → Err Refusal.Budget ≡ checked_of n
unfolding checked_of is_outside
too_high n l = let t = lt-ltb highest_budget n l in rw (t, or-true (ltb n 1))

pub within : (n : ℕ) → 1 ≤ n → n ≤ highest_budget → Ok (record { trees = n }) ≡ checked_of n
unfolding checked_of is_outside
within n l h = let s = le-ltb n 1 l in let t = le-ltb highest_budget n h in rw (s, t)

-- What tells which case a number is.
pub ruleset of_number = (too_low, too_high, within)
