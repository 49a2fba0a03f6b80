-- THE DEEP CALL: rounds of the plan call, under other numbers for the vertices or with more trees; the cheapest drive and the highest floor
-- of them.
use Rattle.std.specs.Prelude.{◌≡◌, List, [], ◌↔◌, ℕ, ◌+◌, ◌≤◌, length, get_or, take, pos, ◌≤ℤ◌, T, Result}
use Rattle.std.proofs.Math.Option.{none, some}
use Rattle.postman.specs.Plan.{required_numbers}
use Rattle.postman.specs.Refusal.{first_refusal, given}
use Rattle.postman.specs.PlanFile.{plan_of}
use Rattle.postman.specs.Drive.{IsDrive, drive_cost}
use Rattle.postman.specs.Required.{required_cost}
use Rattle.postman.specs.Balancing.{least_balancing}
use Rattle.postman.specs.LagrangianBound.{AreMultipliers}
use Rattle.postman.specs.Judge.{judge_answer}
use Rattle.refusal.specs.Verdict.{verdict_number}
use Rattle.refusal.specs.declared.Refusal.{Refusal as Word}
use Rattle.solution.specs.declared.Planned.{Planned}
use Rattle.solution.specs.Planned.{answer_in, multipliers_of}
use Rattle.deep_call.specs.Refusals.{earlier_conditions_in, deep_refusal}
use Rattle.deep_call.specs.Contract.{IsDeepCall}
use Rattle.promises.specs.Demands.{Accepted}
use Rattle.promises.specs.PlanCall.{Call}

-- A call that was made. `deep_call` `deep_call` ensures the contract, for any bytes, budget, rounds and sheet.
pub record Deep (bytes : List ℕ) (budget rounds : ℕ) (sheet : List ℕ) : Type 0 where
  pub after : List ℕ
  pub answer : Result Planned Word
  pub contract : IsDeepCall bytes budget rounds sheet after answer

-- The plan call's refusals, in its order, and 23 (0 rounds, or above 1,000) after 9 and before 10: the first that applies.
abbrev pub Refusal : Type 0
Refusal = (bytes : List ℕ) (budget rounds : ℕ) (sheet : List ℕ) (c : Deep bytes budget rounds sheet)
    → verdict_number c.answer ≡ deep_refusal bytes budget rounds (length sheet)

-- "A refusal […] changes no lent slice."
abbrev pub Untouched : Type 0
Untouched = (bytes : List ℕ) (budget rounds : ℕ) (sheet : List ℕ) (c : Deep bytes budget rounds sheet) (k : ℕ)
    → deep_refusal bytes budget rounds (length sheet) ≡ some k → c.after ≡ sheet

-- "12 is given exactly when no number before it in the call's order applies and no drive exists."
abbrev pub CutOff : Type 0
CutOff = (bytes : List ℕ) (budget rounds : ℕ) (sheet : List ℕ) (c : Deep bytes budget rounds sheet)
    → (verdict_number c.answer ≡ some 12)
    ↔ ((first_refusal (earlier_conditions_in bytes budget rounds (length sheet)) ≡ none) × ((w : List ℕ) → IsDrive (plan_of bytes) w → ⊥))

-- The written places are a drive of the file's plan, of exactly the cost answered, the lowest must arc first.
abbrev pub Written : Type 0
Written = (bytes : List ℕ) (budget rounds : ℕ) (sheet : List ℕ) (c : Deep bytes budget rounds sheet) → Accepted c.answer
    → IsDrive (plan_of bytes) (take (answer_in c.answer).places c.after)
    × (drive_cost (plan_of bytes) (take (answer_in c.answer).places c.after) ≡ (answer_in c.answer).cost)
    × (get_or (take (answer_in c.answer).places c.after) 0 0 ≡ get_or (required_numbers (plan_of bytes)) 0 0)

-- No drive of any length costs less than the floor, which is at least R + Z.
abbrev pub Floor : Type 0
Floor = (bytes : List ℕ) (budget rounds : ℕ) (sheet : List ℕ) (c : Deep bytes budget rounds sheet) → Accepted c.answer
    → ((w : List ℕ) → IsDrive (plan_of bytes) w → (answer_in c.answer).floor ≤ℤ pos (drive_cost (plan_of bytes) w))
    × (pos (required_cost (plan_of bytes) + least_balancing (plan_of bytes) []) ≤ℤ (answer_in c.answer).floor)

-- u meets document 01's two conditions, for the file's plan.
abbrev pub OwnMultipliers : Type 0
OwnMultipliers = (bytes : List ℕ) (budget rounds : ℕ) (sheet : List ℕ) (c : Deep bytes budget rounds sheet) → Accepted c.answer
    → AreMultipliers (plan_of bytes) (multipliers_of c.answer)

-- Whole says that floor and cost are equal, and then no drive is cheaper.
abbrev pub Whole : Type 0
Whole = (bytes : List ℕ) (budget rounds : ℕ) (sheet : List ℕ) (c : Deep bytes budget rounds sheet) → Accepted c.answer
    → (T (answer_in c.answer).whole ↔ ((answer_in c.answer).floor ≡ pos (answer_in c.answer).cost))
    × (T (answer_in c.answer).whole → (w : List ℕ) → IsDrive (plan_of bytes) w → (answer_in c.answer).cost ≤ drive_cost (plan_of bytes) w)

-- One round is the plan call, but for what whole says.
abbrev pub OneRound : Type 0
OneRound = (bytes : List ℕ) (budget : ℕ) (sheet : List ℕ) (c : Deep bytes budget 1 sheet) (d : Call bytes budget sheet)
    → (verdict_number c.answer ≡ verdict_number d.answer) × ((answer_in c.answer).places ≡ (answer_in d.answer).places)
    × ((answer_in c.answer).cost ≡ (answer_in d.answer).cost) × ((answer_in c.answer).floor ≡ (answer_in d.answer).floor)
    × ((answer_in c.answer).trees ≡ (answer_in d.answer).trees) × ((answer_in c.answer).parts ≡ (answer_in d.answer).parts)
    × ((answer_in c.answer).multipliers ≡ (answer_in d.answer).multipliers)
    × (c.after ≡ d.after)

-- Cost no more and floor no less than the plan call's with the same budget.
abbrev pub BeyondPlanCall : Type 0
BeyondPlanCall = (bytes : List ℕ) (budget rounds : ℕ) (sheet sheet' : List ℕ) (c : Call bytes budget sheet)
    (d : Deep bytes budget rounds sheet') → Accepted c.answer → Accepted d.answer
    → ((answer_in d.answer).cost ≤ (answer_in c.answer).cost) × ((answer_in c.answer).floor ≤ℤ (answer_in d.answer).floor)

-- More rounds are never worse; once floor and cost have met they leave the drive as it is.
abbrev pub MoreRounds : Type 0
MoreRounds = (bytes : List ℕ) (budget rounds rounds' : ℕ) (sheet sheet' : List ℕ) (c : Deep bytes budget rounds sheet)
    (d : Deep bytes budget rounds' sheet') → rounds ≤ rounds' → Accepted c.answer → Accepted d.answer
    → ((answer_in d.answer).cost ≤ (answer_in c.answer).cost) × ((answer_in c.answer).floor ≤ℤ (answer_in d.answer).floor)
    × (T (answer_in c.answer).whole → take (answer_in d.answer).places d.after ≡ take (answer_in c.answer).places c.after)

-- "Every drive the planner writes must pass with the cost it printed."
abbrev pub WrittenPasses : Type 0
WrittenPasses = (bytes : List ℕ) (budget rounds : ℕ) (sheet : List ℕ) (c : Deep bytes budget rounds sheet) → Accepted c.answer
    → judge_answer bytes (take (answer_in c.answer).places c.after) ≡ given (answer_in c.answer).cost
