-- A file that is refused refuses the call; one that is not gives its plan, and the rest of the conditions are looked at in their order.
use Rattle.std.proofs.Common.{refl, sym}
use Rattle.plan_file.specs.Laws.Reading.{read_good}
use Rattle.call_steps.specs.Laws.Refused.{stopped}
use Rattle.deep_call.specs.Laws.Call.{is_deep_call, file_refused_deep, read_deep}
use Rattle.deep_call.proofs.call.deep_call.Goals as goal

pub invariant_of-deep_lent-clause-well_formed : goal.invariant_of-deep_lent-clause-well_formed
invariant_of-deep_lent-clause-well_formed c = read_good c.in_ok-read_plan.ensures

pub returns-in_err-read_plan : goal.returns-in_err-read_plan
returns-in_err-read_plan c =
    is_deep_call _ _ _ _ _ _ (file_refused_deep _ _ _ _ _ _ _ (stopped _ _ c.from_residual.ensures.1) refl
    (sym c.in_err-read_plan.ensures.verdict))

pub returns : goal.returns
returns c =
    let r = c.in_ok-read_plan.ensures in
    is_deep_call _ _ _ _ _ _ (read_deep _ _ _ _ _ _ _ r (sym r.verdict) c.deep_lent.ensures)
