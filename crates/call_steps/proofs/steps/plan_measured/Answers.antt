-- Where the network refuses, the answer is its refusal.
use Rattle.std.proofs.Common.{sym}
use Rattle.call_steps.specs.Laws.Call.{refused_planned}
use Rattle.call_steps.specs.Laws.Refused.{stopped}
use Rattle.call_steps.proofs.steps.plan_measured.Goals as goal

pub returns-in_err-network_verdict : goal.returns-in_err-network_verdict
returns-in_err-network_verdict c =
    refused_planned _ _ _ _ _ _ (stopped _ _ c.from_residual.ensures.1) (sym c.in_err-network_verdict.ensures)
