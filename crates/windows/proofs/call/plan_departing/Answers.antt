-- Where the windows refuse, the answer is the refusal; where they do not, the plan at the departure is well formed, and `plan_read` answers it.
use Rattle.std.proofs.Common.{sym}
use Rattle.std.proofs.Math.Path.{subst⁻¹}
use Rattle.postman.specs.Plan.{WellFormed}
use Rattle.postman_laws.specs.Laws.Windows.{at_well_formed}
use Rattle.plan.specs.Laws.Records.{record_arcs}
use Rattle.call_steps.specs.Laws.Chain.{step_refused, made_planned}
use Rattle.call_steps.specs.Laws.Refused.{stopped}
use Rattle.windows.proofs.call.plan_departing.Goals as goal

pub windows_verdict-requires : goal.windows_verdict-requires
windows_verdict-requires c = record_arcs _ c.args.good.now.well_formed

pub plan_at-requires : goal.plan_at-requires
plan_at-requires c = record_arcs _ c.args.good.now.well_formed

pub invariant_of-plan_read-clause-well_formed : goal.invariant_of-plan_read-clause-well_formed
invariant_of-plan_read-clause-well_formed c = subst⁻¹ WellFormed c.plan_at.ensures (at_well_formed _ _ _ c.args.good.now.well_formed)

pub returns-in_err-windows_verdict : goal.returns-in_err-windows_verdict
returns-in_err-windows_verdict c =
    step_refused _ _ _ _ _ _ _ (stopped _ _ c.from_residual.ensures.1) (sym c.in_err-windows_verdict.ensures)

pub returns : goal.returns
returns c =
    made_planned _ _ _ _ _ _ _ c.plan_at.ensures (at_well_formed _ _ _ c.args.good.now.well_formed) (sym c.in_ok-windows_verdict.ensures) c.plan_read.ensures
