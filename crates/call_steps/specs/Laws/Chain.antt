-- The chain of a call with conditions of its own: where a verdict refuses, the first condition that applies is among those it looked at;
-- where it does not, it is among the rest. The last of them are those of the plan that the call is made for.
use Rattle.std.specs.Prelude.{◌≡◌, refl, Result, Ok, Err, List, ◌++◌, Bool, true, false, cond, ℕ, ◌<◌, ◌≤◌}
use Rattle.std.proofs.Common.{sym, ap, ◌∙◌, lt-ltb, le-ltb}
use Rattle.std.proofs.Math.Option.{Option, none, some}
use Rattle.postman_laws.specs.Laws.Contradiction.{zero_is_one}
use Rattle.postman.specs.Plan.{Plan, WellFormed}
use Rattle.postman.specs.Refusal.{Conditions, first_refusal}
use Rattle.postman.specs.PlanFile.{is_outside}
use Rattle.postman.specs.PlanCall.{sheet_places, highest_budget, call_conditions, last_conditions}
use Rattle.postman_laws.specs.Laws.Refusal.{first_on, first_stop}
use Rattle.postman_laws.specs.Laws.Acceptance.{call_limits}
use Rattle.refusal.specs.declared.Refusal.{Refusal}
use Rattle.refusal.specs.Verdict.{refusal_number}
use Rattle.budget.specs.declared.Budget.{Budget}
use Rattle.budget.specs.Checks.{checked_of}
use Rattle.solution.specs.declared.Planned.{Planned}
use Rattle.solution.specs.Planned.{IsPlanned}
use Rattle.call_steps.specs.Refusals.{plan_refusal}
use Rattle.call_steps.specs.Refused.{refused_with}
use Rattle.call_steps.specs.Laws.Call.{parts_refusal, refused_planned, planned_as}

-- ---- one step of the chain

pub step_refused : (q : Plan) (budget : ℕ) (cs ds : Conditions) (old : List ℕ) (r : Refusal) (x : Result Planned Refusal)
    → x ≡ refused_with r → first_refusal cs ≡ some (refusal_number r)
    → IsPlanned q budget (first_refusal (cs ++ ds)) old old x
step_refused q budget cs ds old r x e h = refused_planned q budget _ old r x e (first_stop cs ds _ h)

pub step_on : (q : Plan) (budget : ℕ) (cs ds : Conditions) (old new : List ℕ) (x : Result Planned Refusal) → first_refusal cs ≡ none
    → IsPlanned q budget (first_refusal ds) old new x
    → IsPlanned q budget (first_refusal (cs ++ ds)) old new x
step_on q budget cs ds old new x h i = planned_as q q budget _ _ old new x refl (sym (first_on cs ds h)) i

-- ---- 8 and 9

pub sheet_refused : (budget places : ℕ) → places < sheet_places → some 8 ≡ first_refusal (call_conditions budget places)
unfolding first_refusal call_conditions
sheet_refused budget places l = let e = lt-ltb places sheet_places l in rw e refl

pub budget_refused : (budget places : ℕ) (r : Refusal) → sheet_places ≤ places → checked_of budget ≡ Err r
    → some (refusal_number r) ≡ first_refusal (call_conditions budget places)
unfolding first_refusal call_conditions checked_of
budget_refused budget places r l h = let e = le-ltb places sheet_places l in rw e (at (is_outside budget 1 highest_budget) h)
  where
    at : (b : Bool) → cond {A = Result Budget Refusal} b (Err Refusal.Budget) (Ok (record { trees = budget })) ≡ Err r
        → ◌≡◌ {A = Option ℕ} (some (refusal_number r)) (cond b (some 9) none)
    at true h = let e : Refusal.Budget ≡ r = cc in rw (sym e)
    at false h = zero_is_one (cc)

pub lent_good : (budget places : ℕ) (b : Budget) → sheet_places ≤ places → checked_of budget ≡ Ok b
    → none ≡ first_refusal (call_conditions budget places)
unfolding first_refusal call_conditions checked_of
lent_good budget places b l h = let e = le-ltb places sheet_places l in rw e (at (is_outside budget 1 highest_budget) h)
  where
    at : (x : Bool) → cond {A = Result Budget Refusal} x (Err Refusal.Budget) (Ok (record { trees = budget })) ≡ Ok b
        → ◌≡◌ {A = Option ℕ} none (cond x (some 9) none)
    at true h = zero_is_one (cc)
    at false h = refl

pub small_budget : (budget places : ℕ) → first_refusal (call_conditions budget places) ≡ none → budget ≤ 1000000
unfolding highest_budget
small_budget budget places e = (call_limits budget places e).2

-- ---- from 10 on

-- p, which the plan q was made for, is answered as q
pub made_planned : (p q : Plan) (budget : ℕ) (cs : Conditions) (old new : List ℕ) (x : Result Planned Refusal)
    → p ≡ q → WellFormed q → first_refusal cs ≡ none → IsPlanned p budget (plan_refusal p) old new x
    → IsPlanned q budget (first_refusal (cs ++ last_conditions q)) old new x
made_planned p q budget cs old new x v w e i =
    step_on q budget cs (last_conditions q) old new x e
    (planned_as p q budget _ _ old new x v (ap plan_refusal v ∙ sym (parts_refusal q w)) i)
