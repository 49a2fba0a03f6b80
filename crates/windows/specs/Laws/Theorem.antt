-- NO WINDOWS: with no window and any good departure, the call at a departure answers what the plan call answers, field by field and place
-- by place, and in a refusal too. The plan at the departure is then the file's, and the refusal is the plan call's; so either call's
-- contract is the other's, and two answers to one of them are the same.
use Rattle.std.specs.Prelude.{◌≡◌, not, List, [], ℕ, ◌≤◌, length, T, Result}
use Rattle.std.proofs.Common.{sym}
use Rattle.std.proofs.Math.Option.{none}
use Rattle.postman.specs.PlanFile.{plan_of}
use Rattle.postman.specs.Windows.{Departure, windows_in, plan_at, is_bad_departure, call_refusal_at}
use Rattle.postman_laws.specs.Laws.Windows.{no_windows_same, no_windows_refusal}
use Rattle.refusal.specs.Verdict.{verdict_number}
use Rattle.refusal.specs.declared.Refusal.{Refusal}
use Rattle.solution.specs.declared.Planned.{Planned}
use Rattle.planner.specs.Contract.{IsPlanCall}
use Rattle.solution.specs.SameAnswer.{SameAnswer}
use Rattle.solution.specs.RaisedBudget.{Buys}
use Rattle.planner.specs.Laws.Theorem.{raised_budget}
use Rattle.call_steps.specs.Laws.Call.{planned_as}
use Rattle.planner.specs.Laws.Whole.{is_call}
use Rattle.solution.specs.Laws.SameAnswer.{same_answer}
use Rattle.windows.specs.Contract.{IsPlanCallAt}
use Rattle.windows.specs.Laws.Call.{is_call_at}

module _ (bytes : List ℕ) (budget : ℕ) (d : Departure) (good : T (not (is_bad_departure d))) (old : List ℕ) where
  pub as_plan_call : (new : List ℕ) (r : Result Planned Refusal) → IsPlanCallAt bytes budget [] d old new r
      → IsPlanCall bytes budget old new r
  as_plan_call new r h =
      is_call bytes budget old new r
      (planned_as _ _ budget _ _ old new r (no_windows_same bytes budget (length old) d good)
      (no_windows_refusal bytes budget (length old) d good) h.planned)

  pub as_call_at : (new : List ℕ) (r : Result Planned Refusal) → IsPlanCall bytes budget old new r
      → IsPlanCallAt bytes budget [] d old new r
  as_call_at new r h =
      is_call_at bytes budget [] d old new r
      (planned_as _ _ budget _ _ old new r (sym (no_windows_same bytes budget (length old) d good))
      (sym (no_windows_refusal bytes budget (length old) d good)) h.planned)

  pub no_windows : (new new' : List ℕ) (r s : Result Planned Refusal) → IsPlanCallAt bytes budget [] d old new r
      → IsPlanCall bytes budget old new' s
      → SameAnswer r s × (new ≡ new')
  no_windows new new' r s h g = same_answer _ budget old new new' r s _ (as_plan_call new r h).planned g.planned

-- WHAT A RAISED BUDGET BUYS is "said at equal windows and departure, on which u depends too".
pub raised_budget_at : (bytes numbers : List ℕ) (d : Departure) (b c : ℕ) → b ≤ c
    → (old new old' new' : List ℕ) (r s : Result Planned Refusal) → IsPlanCallAt bytes b numbers d old new r
    → IsPlanCallAt bytes c numbers d old' new' s
    → verdict_number r ≡ none → verdict_number s ≡ none → Buys r s new new'
raised_budget_at bytes numbers d b c more old new old' new' r s at_b at_c good-b good-c =
    raised_budget (plan_at (plan_of bytes) (windows_in numbers) d) b c more (call_refusal_at bytes b (length old) numbers d)
    (call_refusal_at bytes c (length old') numbers d) old new old' new' r s
    at_b.planned at_c.planned good-b good-c
