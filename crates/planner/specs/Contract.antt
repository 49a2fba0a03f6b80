-- What the plan call answers, field by field.
use Rattle.std.specs.Prelude.{◌≡◌, List, ◌↔◌, ℕ, length, Result}
use Rattle.std.proofs.Math.Option.{none, some}
use Rattle.postman.specs.Refusal.{first_refusal}
use Rattle.postman.specs.Drive.{IsDrive}
use Rattle.postman.specs.PlanFile.{plan_of}
use Rattle.postman.specs.PlanCall.{call_refusal, earlier_conditions}
use Rattle.refusal.specs.declared.Refusal.{Refusal}
use Rattle.solution.specs.declared.Planned.{Planned}
use Rattle.refusal.specs.Verdict.{verdict_number}
use Rattle.solution.specs.Planned.{IsPlanned}

-- THE PLAN CALL on any bytes, any budget and any sheet. 12 is given exactly when no number before it applies and no drive exists.
pub record IsPlanCall (bytes : List ℕ) (budget : ℕ) (old new : List ℕ) (r : Result Planned Refusal) : Type 0 where
  pub planned : IsPlanned (plan_of bytes) budget (call_refusal bytes budget (length old)) old new r
  pub cut_off
      : (verdict_number r ≡ some 12)
      ↔ ((first_refusal (earlier_conditions bytes budget (length old)) ≡ none) × ((w : List ℕ) → IsDrive (plan_of bytes) w → ⊥))
