-- THE PLAN CALL, and the short call.
use Rattle.std.specs.Prelude.{◌≡◌, List, ◌↔◌, ℕ, ◌≤◌, length, Result}
use Rattle.std.proofs.Math.Option.{none, some}
use Rattle.postman.specs.Refusal.{first_refusal}
use Rattle.postman.specs.PlanFile.{plan_of}
use Rattle.postman.specs.Drive.{IsDrive}
use Rattle.postman.specs.PlanCall.{default_budget, earlier_conditions, call_refusal}
use Rattle.refusal.specs.declared.Refusal.{Refusal}
use Rattle.solution.specs.Planned.{answer_in}
use Rattle.solution.specs.declared.Planned.{Planned}
use Rattle.solution.specs.RaisedBudget.{Buys}
use Rattle.planner.specs.Contract.{IsPlanCall}
use Rattle.promises.specs.Demands.{Refuses, Accepted, Drives, Bounds}

-- A call that was made: what it was lent, and beside it what it left and answered. `planner` `plan_call` ensures the contract, for any
-- bytes, budget and sheet.
pub record Call (bytes : List ℕ) (budget : ℕ) (sheet : List ℕ) : Type 0 where
  pub after : List ℕ
  pub answer : Result Planned Refusal
  pub contract : IsPlanCall bytes budget sheet after answer

-- DEMAND 1
abbrev pub FirstDemand : Type 0
FirstDemand = (bytes : List ℕ) (budget : ℕ) (sheet : List ℕ) (c : Call bytes budget sheet)
    → Refuses (call_refusal bytes budget (length sheet)) sheet c.after c.answer

-- "12 is given exactly when no number before it in the call's order applies and no drive exists."
abbrev pub CutOff : Type 0
CutOff = (bytes : List ℕ) (budget places : ℕ)
    → (call_refusal bytes budget places ≡ some 12)
    ↔ ((first_refusal (earlier_conditions bytes budget places) ≡ none) × ((w : List ℕ) → IsDrive (plan_of bytes) w → ⊥))

-- DEMAND 2
abbrev pub SecondDemand : Type 0
SecondDemand = (bytes : List ℕ) (budget : ℕ) (sheet : List ℕ) (c : Call bytes budget sheet)
    → Accepted c.answer → Drives (plan_of bytes) budget sheet c.after c.answer

-- DEMAND 3
abbrev pub ThirdDemand : Type 0
ThirdDemand = (bytes : List ℕ) (budget : ℕ) (sheet : List ℕ) (c : Call bytes budget sheet)
    → Accepted c.answer → Bounds (plan_of bytes) c.answer

-- What is left open, the drive among equals and u, is a function of what was lent: two calls on the same answer the same, and leave the
-- same sheet.
abbrev pub OneAnswer : Type 0
OneAnswer = (bytes : List ℕ) (budget : ℕ) (sheet : List ℕ) (c d : Call bytes budget sheet)
    → (c.answer ≡ d.answer) × (c.after ≡ d.after)

-- "u depends on the plan alone."
abbrev pub OwnMultipliers : Type 0
OwnMultipliers = (bytes bytes' : List ℕ) (b b' : ℕ) (sheet sheet' : List ℕ) (c : Call bytes b sheet) (d : Call bytes' b' sheet')
    → plan_of bytes ≡ plan_of bytes' → Accepted c.answer → Accepted d.answer
    → (answer_in c.answer).multipliers ≡ (answer_in d.answer).multipliers

-- What a raised budget buys: "the larger gives a drive no dearer and a floor no lower […], so two answers that aren't whole have equal
-- floors. This is to be shown for every plan and every pair of good budgets, and refused calls are outside it."
abbrev pub RaisedBudget : Type 0
RaisedBudget = (bytes : List ℕ) (b b' : ℕ) (sheet sheet' : List ℕ) (c : Call bytes b sheet) (d : Call bytes b' sheet')
    → b ≤ b' → Accepted c.answer → Accepted d.answer → Buys c.answer d.answer c.after d.after

-- "The short call leaves B out"; its budget "becomes 100,000": `planner` `short_call` ensures the plan call's contract at `default_budget`.
abbrev pub ShortCall : Type 0
ShortCall = (bytes sheet : List ℕ) (short : Call bytes default_budget sheet) (c : Call bytes 100000 sheet)
    → (short.answer ≡ c.answer) × (short.after ≡ c.after)
