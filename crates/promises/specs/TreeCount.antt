-- THE NUMBER OF TREES: "How deep is this plan? Before choosing a budget we want N itself."
use Rattle.std.specs.Prelude.{◌≡◌, Result, true, List, ◌↔◌, ℕ, ◌≤◌, ◌<◌}
use Rattle.std.proofs.Math.Option.{none, some}
use Rattle.postman.specs.Refusal.{refused, given}
use Rattle.postman.specs.PlanFile.{plan_of}
use Rattle.postman.specs.Component.{component_count}
use Rattle.postman.specs.Arborescence.{arborescence_count}
use Rattle.postman.specs.TreeCount.{known, above, count_refusal, count_call}
use Rattle.refusal.specs.declared.Refusal.{Refusal}
use Rattle.count_call.specs.declared.Count.{Count as CountAnswer}
use Rattle.count_call.specs.Contract.{count_answer}
use Rattle.promises.specs.Demands.{Accepted}
use Rattle.promises.specs.PlanCall.{Call}
use Rattle.solution.specs.Planned.{answer_in}

-- A call that was made. `count_call` `count_call` ensures the equation, for any bytes; it is lent nothing that it could change.
pub record Count (bytes : List ℕ) : Type 0 where
  pub answer : Result CountAnswer Refusal
  pub answer_is : count_answer answer ≡ count_call bytes

-- "It takes plan bytes without windows and can give 1 to 7 and 10 to 13."
abbrev pub Refusals : Type 0
Refusals = (bytes : List ℕ) (c : Count bytes) (k : ℕ) → count_refusal bytes ≡ some k → count_answer c.answer ≡ refused k

-- "Give the exact number of trees, counted without listing each,
abbrev pub Exact : Type 0
Exact = (bytes : List ℕ) (c : Count bytes) → count_refusal bytes ≡ none → arborescence_count (plan_of bytes) ≤ 4294967295
    → count_answer c.answer ≡ given (known (arborescence_count (plan_of bytes)))

-- or the answer 'above 4,294,967,295' exactly when it is."
abbrev pub Above : Type 0
Above = (bytes : List ℕ) (c : Count bytes) → count_refusal bytes ≡ none → 4294967295 < arborescence_count (plan_of bytes)
    → count_answer c.answer ≡ given above

-- "For any accepted budget, and no windows, the plan call's whole is yes exactly when that number is known and no larger than the budget."
abbrev pub WholeTold : Type 0
WholeTold = (bytes : List ℕ) (budget : ℕ) (sheet : List ℕ) (c : Count bytes) (d : Call bytes budget sheet) → Accepted d.answer
    → ((answer_in d.answer).whole ≡ true) ↔ ((n : ℕ) × (count_answer c.answer ≡ given (known n)) × (n ≤ budget))

-- "k = 1 gives 1."
abbrev pub OnePart : Type 0
OnePart = (bytes : List ℕ) (c : Count bytes) → count_refusal bytes ≡ none → component_count (plan_of bytes) ≡ 1
    → count_answer c.answer ≡ given (known 1)
