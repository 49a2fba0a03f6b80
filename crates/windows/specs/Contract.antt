-- What the plan call at a departure answers, field by field.
use Rattle.std.specs.Prelude.{◌≡◌, List, ◌↔◌, ℕ, length, take, pos, ◌≤ℤ◌, Result}
use Rattle.std.proofs.Math.Option.{none, some}
use Rattle.postman.specs.Refusal.{first_refusal}
use Rattle.postman.specs.PlanFile.{plan_of}
use Rattle.postman.specs.Drive.{IsDrive, drive_cost}
use Rattle.postman.specs.Windows.{Departure, windows_in, plan_at, Avoids, earlier_conditions_at, call_refusal_at}
use Rattle.refusal.specs.Verdict.{verdict_number}
use Rattle.refusal.specs.declared.Refusal.{Refusal}
use Rattle.solution.specs.declared.Planned.{Planned}
use Rattle.solution.specs.Planned.{IsPlanned, summary_of, places_of}

-- THE PLAN CALL AT A DEPARTURE on any bytes, any budget, any numbers for windows, any departure and any sheet: the plan call on the plan at
-- that departure. What is said of that plan is said again of the file's, in whose words document 02 has it.
pub record IsPlanCallAt (bytes : List ℕ) (budget : ℕ) (numbers : List ℕ) (d : Departure) (old new : List ℕ)
    (r : Result Planned Refusal) : Type 0 where
  pub planned : IsPlanned (plan_at (plan_of bytes) (windows_in numbers) d) budget (call_refusal_at bytes budget (length old) numbers d)
      old new r
  -- 12 is given exactly when no number before it applies and no drive exists that avoids the arcs shut
  pub cut_off
      : (verdict_number r ≡ some 12)
      ↔ ((first_refusal (earlier_conditions_at bytes budget (length old) numbers d) ≡ none)
      × ((w : List ℕ) → IsDrive (plan_of bytes) w → Avoids (windows_in numbers) d w → ⊥))
  -- "The floor is over drives that avoid arcs shut at departure": each drive of the file's plan that does costs at least the floor
  pub below_every_drive
      : verdict_number r ≡ none → (w : List ℕ) → IsDrive (plan_of bytes) w → Avoids (windows_in numbers) d w
      → (summary_of r).floor ≤ℤ pos (drive_cost (plan_of bytes) w)
  -- and the places written are one of them, of the cost
  pub written_drive : verdict_number r ≡ none → IsDrive (plan_of bytes) (take (places_of r) new)
  pub written_avoids : verdict_number r ≡ none → Avoids (windows_in numbers) d (take (places_of r) new)
  pub written_cost : verdict_number r ≡ none → drive_cost (plan_of bytes) (take (places_of r) new) ≡ (summary_of r).cost
