-- TWO CARS: "Main sheet and inset are surveyed by two cars on the same streets."
use Rattle.std.specs.Prelude.{◌≡◌, List, ◌↔◌, ℕ, ◌≤◌, length, Result}
use Rattle.std.proofs.Math.Option.{none, some}
use Rattle.postman.specs.Refusal.{first_refusal}
use Rattle.postman.specs.PlanFile.{file_conditions, plan_of}
use Rattle.postman.specs.Drive.{IsDrive}
use Rattle.postman.specs.Marks.{car_plan, own_marks, earlier_conditions_for, car_refusal}
use Rattle.refusal.specs.Verdict.{verdict_number}
use Rattle.refusal.specs.declared.Refusal.{Refusal}
use Rattle.solution.specs.declared.Planned.{Planned}
use Rattle.solution.specs.RaisedBudget.{Buys}
use Rattle.two_cars.specs.declared.TwoPlanned.{TwoPlanned}
use Rattle.two_cars.specs.Contract.{IsCar, IsTwoCars}
use Rattle.promises.specs.Demands.{Refuses, Accepted, Drives, Bounds}
use Rattle.promises.specs.PlanCall.{Call}

-- What a car lends: "each car has its own 8 parts, budget and sheet", and its own list of must marks.
pub record Given : Type 0 where
  pub marks : List ℕ
  pub budget : ℕ
  pub sheet : List ℕ

-- A call that was made. `two_cars` `two_cars` ensures the contract, for any bytes, marks, budgets and sheets.
pub record Cars (bytes : List ℕ) (a b : Given) : Type 0 where
  pub first_after : List ℕ
  pub second_after : List ℕ
  pub answer : TwoPlanned
  pub contract : IsTwoCars bytes a.marks a.budget a.sheet first_after b.marks b.budget b.sheet second_after answer

-- One car of such a call.
pub record Car (bytes : List ℕ) (g : Given) : Type 0 where
  pub after : List ℕ
  pub answer : Result Planned Refusal
  pub contract : IsCar bytes g.marks g.budget g.sheet after answer

abbrev pub EachCar : Type 0
EachCar = (bytes : List ℕ) (a b : Given) (c : Cars bytes a b)
    → IsCar bytes a.marks a.budget a.sheet c.first_after c.answer.first
    × IsCar bytes b.marks b.budget b.sheet c.second_after c.answer.second

-- "Change one car's marks at will: the other's refusal, drive, cost, floor, trees and u must be the same."
abbrev pub FirstAlone : Type 0
FirstAlone = (bytes : List ℕ) (a b b' : Given) (c : Cars bytes a b) (d : Cars bytes a b')
    → (c.answer.first ≡ d.answer.first) × (c.first_after ≡ d.first_after)

abbrev pub SecondAlone : Type 0
SecondAlone = (bytes : List ℕ) (a a' b : Given) (c : Cars bytes a b) (d : Cars bytes a' b)
    → (c.answer.second ≡ d.answer.second) × (c.second_after ≡ d.second_after)

-- "Only 1 to 7 and 13 reach both": the file's.
abbrev pub FileRefusal : Type 0
FileRefusal = (bytes : List ℕ) (a b : Given) (c : Cars bytes a b) (k : ℕ) → first_refusal (file_conditions bytes) ≡ some k
    → (verdict_number c.answer.first ≡ some k) × (verdict_number c.answer.second ≡ some k)

-- "Any other refusal is that car's alone and keeps just that car's sheet as it was, so demand 1 is read car by car for those": DEMAND 1,
-- with 18 among the refusals
abbrev pub FirstDemand : Type 0
FirstDemand = (bytes : List ℕ) (g : Given) (c : Car bytes g)
    → Refuses (car_refusal bytes g.budget (length g.sheet) g.marks) g.sheet c.after c.answer

-- 12 exactly when no number before it applies and no drive exists that passes the marked arcs
abbrev pub CutOff : Type 0
CutOff = (bytes : List ℕ) (g : Given) (c : Car bytes g)
    → (verdict_number c.answer ≡ some 12)
    ↔ ((first_refusal (earlier_conditions_for bytes g.budget (length g.sheet) g.marks) ≡ none)
    × ((w : List ℕ) → IsDrive (car_plan (plan_of bytes) g.marks) w → ⊥))

-- DEMAND 2: its own list of must marks "replaces the plan's must marks (a plain arc if unmarked)"
abbrev pub SecondDemand : Type 0
SecondDemand = (bytes : List ℕ) (g : Given) (c : Car bytes g)
    → Accepted c.answer → Drives (car_plan (plan_of bytes) g.marks) g.budget g.sheet c.after c.answer

-- "Demand 3 holds for each car over its marks."
abbrev pub ThirdDemand : Type 0
ThirdDemand = (bytes : List ℕ) (g : Given) (c : Car bytes g) → Accepted c.answer → Bounds (car_plan (plan_of bytes) g.marks) c.answer

-- What a raised budget buys, "for a car, with equal marks"
abbrev pub RaisedBudget : Type 0
RaisedBudget = (bytes marks : List ℕ) (b b' : ℕ) (sheet sheet' : List ℕ)
    (c : Car bytes (record { marks = marks; budget = b; sheet = sheet }))
    (d : Car bytes (record { marks = marks; budget = b'; sheet = sheet' }))
    → b ≤ b' → Accepted c.answer → Accepted d.answer → Buys c.answer d.answer c.after d.after

-- A car whose marks are the plan's own must arcs: the plan call, in a refusal too.
abbrev pub OwnMarks : Type 0
OwnMarks = (bytes : List ℕ) (budget : ℕ) (sheet : List ℕ)
    (c : Car bytes (record { marks = own_marks (plan_of bytes); budget = budget; sheet = sheet })) (d : Call bytes budget sheet)
    → (c.answer ≡ d.answer) × (c.after ≡ d.after)
