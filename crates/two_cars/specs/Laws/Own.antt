-- A car with the plan's own marks: where the file is not refused, its plan is the file's and its refusal the plan call's; where it is, both
-- are refused for it, and a refusal says nothing of the plan.
use Rattle.std.specs.Prelude.{◌≡◌, refl, List, ℕ, length, Result}
use Rattle.std.proofs.Common.{sym, ◌∙◌}
use Rattle.std.proofs.Math.Option.{Option, none, some}
use Rattle.postman.specs.Refusal.{first_refusal}
use Rattle.postman.specs.PlanFile.{file_conditions, plan_of}
use Rattle.postman.specs.PlanCall.{call_refusal}
use Rattle.postman.specs.Marks.{own_marks}
use Rattle.postman_laws.specs.Laws.Refusal.{first_stop}
use Rattle.postman_laws.specs.Laws.Marks.{car_order, own_file_plan, own_refusal}
use Rattle.refusal.specs.declared.Refusal.{Refusal}
use Rattle.solution.specs.declared.Planned.{Planned}
use Rattle.planner.specs.Contract.{IsPlanCall}
use Rattle.solution.specs.Planned.{IsPlanned}
use Rattle.call_steps.specs.Laws.Call.{planned_as}
use Rattle.planner.specs.Laws.Whole.{is_call, file_refused}
use Rattle.solution.specs.Laws.SameAnswer.{refused_as}
use Rattle.two_cars.specs.Contract.{IsCar}

pub as_plan_call : (bytes : List ℕ) (budget : ℕ) (old new : List ℕ) (r : Result Planned Refusal)
    → IsCar bytes (own_marks (plan_of bytes)) budget old new r → IsPlanCall bytes budget old new r
as_plan_call bytes budget old new r h = is_call bytes budget old new r (by (first_refusal (file_conditions bytes)) refl)
  where
    by : (o : Option ℕ) → first_refusal (file_conditions bytes) ≡ o
        → IsPlanned (plan_of bytes) budget (call_refusal bytes budget (length old)) old new r
    by none e = planned_as _ _ budget _ _ old new r (own_file_plan bytes e) (own_refusal bytes e budget (length old)) h.planned
    by (some k) e =
        let car = car_order bytes budget (length old) (own_marks (plan_of bytes)) ∙ first_stop (file_conditions bytes) _ k e in
        planned_as _ _ budget _ _ old new r refl (sym (file_refused bytes budget (length old) k e))
        (refused_as _ (plan_of bytes) budget k old new r (planned_as _ _ budget _ _ old new r refl car h.planned))
