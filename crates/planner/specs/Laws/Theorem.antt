-- WHAT A RAISED BUDGET BUYS, for every plan and every pair of good budgets: over the contracts of two calls, with any two sheets. "Refused
-- calls are outside it", and nothing else is.
use Rattle.std.specs.Prelude.{◌≡◌, List, ℕ, ◌≤◌, length, Result}
use Rattle.std.proofs.Math.Option.{Option, none}
use Rattle.postman.specs.Plan.{Plan}
use Rattle.postman.specs.PlanFile.{plan_of}
use Rattle.postman.specs.PlanCall.{call_refusal}
use Rattle.refusal.specs.Verdict.{verdict_number}
use Rattle.refusal.specs.declared.Refusal.{Refusal}
use Rattle.solution.specs.declared.Planned.{Planned}
use Rattle.planner.specs.Contract.{IsPlanCall}
use Rattle.solution.specs.Planned.{IsPlanned}
use Rattle.solution.specs.RaisedBudget.{Buys}
use Rattle.solution.specs.Laws.RaisedBudget.{buys}

-- Of one plan, however it was made: f and g are what the two calls are refused for, by their own order of refusals.
pub raised_budget : (p : Plan) (b c : ℕ) → b ≤ c
    → (f g : Option ℕ) (old new old' new' : List ℕ) (r s : Result Planned Refusal) → IsPlanned p b f old new r → IsPlanned p c g old' new' s
    → verdict_number r ≡ none → verdict_number s ≡ none → Buys r s new new'
raised_budget p b c more f g old new old' new' r s at_b at_c good-b good-c =
    buys p b c more f g old new old' new' r s at_b at_c good-b good-c

-- Of the plan call on one file.
pub raised_budget_call : (bytes : List ℕ) (b c : ℕ) → b ≤ c
    → (old new old' new' : List ℕ) (r s : Result Planned Refusal) → IsPlanCall bytes b old new r → IsPlanCall bytes c old' new' s
    → verdict_number r ≡ none → verdict_number s ≡ none → Buys r s new new'
raised_budget_call bytes b c more old new old' new' r s at_b at_c good-b good-c =
    raised_budget (plan_of bytes) b c more (call_refusal bytes b (length old)) (call_refusal bytes c (length old')) old new old' new' r s
    at_b.planned at_c.planned good-b good-c
