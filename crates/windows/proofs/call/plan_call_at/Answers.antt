-- A file that is refused refuses the call; one that is not gives its plan, and the rest of the conditions are looked at in their order.
use Rattle.std.proofs.Common.{refl, sym}
use Rattle.plan_file.specs.Laws.Reading.{read_good}
use Rattle.call_steps.specs.Laws.Refused.{stopped}
use Rattle.windows.specs.Laws.Call.{is_call_at, file_refused_at, read_planned_at}
use Rattle.windows.proofs.call.plan_call_at.Goals as goal

pub invariant_of-plan_lent-clause-well_formed : goal.invariant_of-plan_lent-clause-well_formed
invariant_of-plan_lent-clause-well_formed c = read_good c.in_ok-read_plan.ensures

pub returns-in_err-read_plan : goal.returns-in_err-read_plan
returns-in_err-read_plan c =
    is_call_at _ _ _ _ _ _ _ (file_refused_at _ _ _ _ _ _ _ _ (stopped _ _ c.from_residual.ensures.1) refl
    (sym c.in_err-read_plan.ensures.verdict))

pub returns : goal.returns
returns c =
    let r = c.in_ok-read_plan.ensures in
    is_call_at _ _ _ _ _ _ _ (read_planned_at _ _ _ _ _ _ _ _ r (sym r.verdict) c.plan_lent.ensures)
