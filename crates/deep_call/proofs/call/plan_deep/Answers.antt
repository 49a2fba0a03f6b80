-- Where the plan is refused, so is the call; where it is not, the first round's answer is what is kept first.
use Rattle.std.proofs.Common.{sym}
use Rattle.call_steps.specs.Laws.Refused.{stopped}
use Rattle.deep_call.specs.Laws.Call.{refused_deep}
use Rattle.deep_call.proofs.call.plan_deep.Goals as goal

pub returns-in_err-plan_verdict : goal.returns-in_err-plan_verdict
returns-in_err-plan_verdict c =
    refused_deep _ _ _ _ _ _ _ (stopped _ _ c.from_residual.ensures.1) (sym c.in_err-plan_verdict.ensures)
