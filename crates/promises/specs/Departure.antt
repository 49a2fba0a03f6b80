-- THE PLAN CALL AT A DEPARTURE: "Market days. Streets shut on stated weekdays."
use Rattle.std.specs.Prelude.{◌≡◌, not, List, [], ◌↔◌, ℕ, ◌≤◌, length, take, pos, ◌≤ℤ◌, T, Result}
use Rattle.std.proofs.Math.Option.{none, some}
use Rattle.postman.specs.Refusal.{first_refusal}
use Rattle.postman.specs.PlanFile.{plan_of}
use Rattle.postman.specs.Drive.{IsDrive, drive_cost}
use Rattle.postman.specs.Windows.{Departure, windows_in, plan_at, Avoids, is_bad_departure, earlier_conditions_at, call_refusal_at}
use Rattle.refusal.specs.declared.Refusal.{Refusal}
use Rattle.solution.specs.Planned.{answer_in}
use Rattle.solution.specs.declared.Planned.{Planned}
use Rattle.solution.specs.RaisedBudget.{Buys}
use Rattle.windows.specs.Contract.{IsPlanCallAt}
use Rattle.promises.specs.Demands.{Refuses, Accepted, Drives, Bounds}
use Rattle.promises.specs.PlanCall.{Call}

-- A call that was made. `windows` `plan_call_at` ensures the contract, for any bytes, budget, windows, departure and sheet.
pub record CallAt (bytes : List ℕ) (budget : ℕ) (windows : List ℕ) (d : Departure) (sheet : List ℕ) : Type 0 where
  pub after : List ℕ
  pub answer : Result Planned Refusal
  pub contract : IsPlanCallAt bytes budget windows d sheet after answer

-- DEMAND 1, with 19 and 20 among the refusals
abbrev pub FirstDemand : Type 0
FirstDemand = (bytes : List ℕ) (budget : ℕ) (windows : List ℕ) (d : Departure) (sheet : List ℕ) (c : CallAt bytes budget windows d sheet)
    → Refuses (call_refusal_at bytes budget (length sheet) windows d) sheet c.after c.answer

-- 12 exactly when no number before it applies and no drive exists that avoids the arcs shut
abbrev pub CutOff : Type 0
CutOff = (bytes : List ℕ) (budget places : ℕ) (windows : List ℕ) (d : Departure)
    → (call_refusal_at bytes budget places windows d ≡ some 12)
    ↔ ((first_refusal (earlier_conditions_at bytes budget places windows d) ≡ none)
    × ((w : List ℕ) → IsDrive (plan_of bytes) w → Avoids (windows_in windows) d w → ⊥))

-- DEMAND 2: "A window of that weekday shuts its arc when from ≤ t < to. The arc then counts as closed for that plan call."
abbrev pub SecondDemand : Type 0
SecondDemand = (bytes : List ℕ) (budget : ℕ) (windows : List ℕ) (d : Departure) (sheet : List ℕ) (c : CallAt bytes budget windows d sheet)
    → Accepted c.answer → Drives (plan_at (plan_of bytes) (windows_in windows) d) budget sheet c.after c.answer

-- So the written places are a drive of the file's plan, which avoids the arcs shut, of the cost answered.
abbrev pub WrittenAvoids : Type 0
WrittenAvoids = (bytes : List ℕ) (budget : ℕ) (windows : List ℕ) (d : Departure) (sheet : List ℕ) (c : CallAt bytes budget windows d sheet)
    → Accepted c.answer
    → IsDrive (plan_of bytes) (take (answer_in c.answer).places c.after)
    × Avoids (windows_in windows) d (take (answer_in c.answer).places c.after)
    × (drive_cost (plan_of bytes) (take (answer_in c.answer).places c.after) ≡ (answer_in c.answer).cost)

-- DEMAND 3
abbrev pub ThirdDemand : Type 0
ThirdDemand = (bytes : List ℕ) (budget : ℕ) (windows : List ℕ) (d : Departure) (sheet : List ℕ) (c : CallAt bytes budget windows d sheet)
    → Accepted c.answer → Bounds (plan_at (plan_of bytes) (windows_in windows) d) c.answer

-- "The floor is over drives that avoid arcs shut at departure, and later minutes play no part": drives of the file's plan.
abbrev pub FloorOfAvoiding : Type 0
FloorOfAvoiding = (bytes : List ℕ) (budget : ℕ) (windows : List ℕ) (d : Departure) (sheet : List ℕ)
    (c : CallAt bytes budget windows d sheet)
    → Accepted c.answer
    → (w : List ℕ) → IsDrive (plan_of bytes) w → Avoids (windows_in windows) d w
    → (answer_in c.answer).floor ≤ℤ pos (drive_cost (plan_of bytes) w)

-- Two calls on the same answer the same, and leave the same sheet.
abbrev pub OneAnswer : Type 0
OneAnswer = (bytes : List ℕ) (budget : ℕ) (windows : List ℕ) (d : Departure) (sheet : List ℕ) (c c' : CallAt bytes budget windows d sheet)
    → (c.answer ≡ c'.answer) × (c.after ≡ c'.after)

-- "What is said of one plan and two budgets is said at equal windows and departure, on which u depends too."
abbrev pub RaisedBudget : Type 0
RaisedBudget = (bytes : List ℕ) (b b' : ℕ) (windows : List ℕ) (d : Departure) (sheet sheet' : List ℕ)
    (c : CallAt bytes b windows d sheet) (c' : CallAt bytes b' windows d sheet')
    → b ≤ b' → Accepted c.answer → Accepted c'.answer → Buys c.answer c'.answer c.after c'.after

-- No windows, and any good departure: the plan call, in a refusal too.
abbrev pub NoWindows : Type 0
NoWindows = (bytes : List ℕ) (budget : ℕ) (d : Departure) (sheet : List ℕ) (c : CallAt bytes budget [] d sheet)
    (c' : Call bytes budget sheet)
    → T (not (is_bad_departure d)) → (c.answer ≡ c'.answer) × (c.after ≡ c'.after)
