-- THE TWO CARS DO NOT INTERFERE: "Change one car's marks at will: the other's refusal, drive, cost, floor, trees and u must be the same."
-- Over the contracts of two runs that agree in the plan and in what one car lends; whatever the other lends. And a car whose marks are the
-- plan's own is answered what the plan call answers; what a raised budget buys, it buys a car.
use Rattle.std.specs.Prelude.{◌≡◌, List, ℕ, ◌≤◌, length, Result}
use Rattle.std.proofs.Math.Option.{none}
use Rattle.postman.specs.PlanFile.{plan_of}
use Rattle.postman.specs.Marks.{car_plan, own_marks, car_refusal}
use Rattle.refusal.specs.Verdict.{verdict_number}
use Rattle.refusal.specs.declared.Refusal.{Refusal}
use Rattle.solution.specs.declared.Planned.{Planned}
use Rattle.planner.specs.Contract.{IsPlanCall}
use Rattle.solution.specs.SameAnswer.{SameAnswer}
use Rattle.solution.specs.RaisedBudget.{Buys}
use Rattle.planner.specs.Laws.Theorem.{raised_budget}
use Rattle.solution.specs.Laws.SameAnswer.{same_answer}
use Rattle.two_cars.specs.declared.TwoPlanned.{TwoPlanned}
use Rattle.two_cars.specs.Contract.{IsCar, IsTwoCars}
use Rattle.two_cars.specs.Laws.Own.{as_plan_call}

-- One car, in two runs.
same_car : (bytes marks : List ℕ) (budget : ℕ) (old new new' : List ℕ) (r s : Result Planned Refusal) → IsCar bytes marks budget old new r
    → IsCar bytes marks budget old new' s → SameAnswer r s × (new ≡ new')
same_car bytes marks budget old new new' r s h g =
    same_answer (car_plan (plan_of bytes) marks) budget old new new' r s (car_refusal bytes budget (length old) marks) h.planned
    g.planned

module _ (bytes marks : List ℕ) (budget : ℕ) (old new new' : List ℕ) (other other' : List ℕ) (b b' : ℕ) (o o' n n' : List ℕ)
    (r s : TwoPlanned) where
  pub first_alone : IsTwoCars bytes marks budget old new other b o n r → IsTwoCars bytes marks budget old new' other' b' o' n' s
      → SameAnswer r.first s.first × (new ≡ new')
  first_alone h g = same_car bytes marks budget old new new' r.first s.first h.first g.first

  pub second_alone : IsTwoCars bytes other b o n marks budget old new r → IsTwoCars bytes other' b' o' n' marks budget old new' s
      → SameAnswer r.second s.second × (new ≡ new')
  second_alone h g = same_car bytes marks budget old new new' r.second s.second h.second g.second

-- A car whose marks are the plan's own must arcs, and the plan call.
pub own_marks_lem : (bytes : List ℕ) (budget : ℕ) (old new new' : List ℕ) (r s : Result Planned Refusal)
    → IsCar bytes (own_marks (plan_of bytes)) budget old new r → IsPlanCall bytes budget old new' s
    → SameAnswer r s × (new ≡ new')
own_marks_lem bytes budget old new new' r s h g =
    same_answer _ budget old new new' r s _ (as_plan_call bytes budget old new r h).planned g.planned

-- What a raised budget buys a car, at equal marks.
pub raised_budget_car : (bytes marks : List ℕ) (b c : ℕ) → b ≤ c
    → (old new old' new' : List ℕ) (r s : Result Planned Refusal) → IsCar bytes marks b old new r → IsCar bytes marks c old' new' s
    → verdict_number r ≡ none → verdict_number s ≡ none → Buys r s new new'
raised_budget_car bytes marks b c more old new old' new' r s at_b at_c good-b good-c =
    raised_budget (car_plan (plan_of bytes) marks) b c more (car_refusal bytes b (length old) marks)
    (car_refusal bytes c (length old') marks) old new old' new' r s at_b.planned at_c.planned good-b good-c
