-- What the call for two cars answers, car by car. Nothing of one car's contract speaks of the other.
use Rattle.std.specs.Prelude.{◌≡◌, List, ◌↔◌, ℕ, length, Result}
use Rattle.std.proofs.Math.Option.{none, some}
use Rattle.postman.specs.Refusal.{first_refusal}
use Rattle.postman.specs.PlanFile.{plan_of}
use Rattle.postman.specs.Drive.{IsDrive}
use Rattle.postman.specs.Marks.{car_plan, earlier_conditions_for, car_refusal}
use Rattle.refusal.specs.Verdict.{verdict_number}
use Rattle.refusal.specs.declared.Refusal.{Refusal}
use Rattle.solution.specs.declared.Planned.{Planned}
use Rattle.solution.specs.Planned.{IsPlanned}
use Rattle.two_cars.specs.declared.TwoPlanned.{TwoPlanned}

-- One car: the plan call on its plan, demand 3 over its marks. 12 is given exactly when no number before it applies and
-- no drive exists that passes the marked arcs.
pub record IsCar (bytes marks : List ℕ) (budget : ℕ) (old new : List ℕ) (r : Result Planned Refusal) : Type 0 where
  pub planned : IsPlanned (car_plan (plan_of bytes) marks) budget (car_refusal bytes budget (length old) marks) old new r
  pub cut_off
      : (verdict_number r ≡ some 12)
      ↔ ((first_refusal (earlier_conditions_for bytes budget (length old) marks) ≡ none)
      × ((w : List ℕ) → IsDrive (car_plan (plan_of bytes) marks) w → ⊥))

-- THE CALL FOR TWO CARS on any bytes, and any marks, budgets and sheets.
pub record IsTwoCars (bytes : List ℕ) (marks₁ : List ℕ) (budget₁ : ℕ) (old₁ new₁ : List ℕ) (marks₂ : List ℕ) (budget₂ : ℕ)
    (old₂ new₂ : List ℕ) (r : TwoPlanned) : Type 0 where
  pub first : IsCar bytes marks₁ budget₁ old₁ new₁ r.first
  pub second : IsCar bytes marks₂ budget₂ old₂ new₂ r.second
