-- A file that is refused refuses the call; one that is not gives its plan, and the rest of the conditions are looked at in their order.
use Rattle.std.proofs.Common.{sym}
use Rattle.plan_file.specs.Laws.Reading.{read_good}
use Rattle.call_steps.specs.Laws.Call.{refused_planned}
use Rattle.call_steps.specs.Laws.Refused.{stopped}
use Rattle.planner.specs.Laws.Whole.{file_refused, read_planned, is_call}
use Rattle.planner.proofs.call.plan_call.Goals as goal

pub invariant_of-plan_lent-clause-well_formed : goal.invariant_of-plan_lent-clause-well_formed
invariant_of-plan_lent-clause-well_formed c = read_good c.in_ok-read_plan.ensures

pub returns-in_err-read_plan : goal.returns-in_err-read_plan
returns-in_err-read_plan c =
    is_call _ _ _ _ _ (refused_planned _ _ _ _ _ _ (stopped _ _ c.from_residual.ensures.1)
    (file_refused _ _ _ _ (sym c.in_err-read_plan.ensures.verdict)))

pub returns : goal.returns
returns c =
    let r = c.in_ok-read_plan.ensures in
    is_call _ _ _ _ _ (read_planned _ _ _ _ _ _ r (sym r.verdict) c.plan_lent.ensures)
