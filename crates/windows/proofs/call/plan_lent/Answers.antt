-- Where the sheet or the budget refuses, the answer is the refusal; where they do not, both are within their limits.
use Rattle.std.proofs.Common.{sym, rules}
use Rattle.postman_laws.specs.Laws.Acceptance.{call_limits}
use Rattle.call_steps.specs.Laws.Chain.{small_budget, step_refused, step_on}
use Rattle.call_steps.specs.Laws.Refused.{stopped}
use Rattle.windows.proofs.call.plan_lent.Goals as goal

pub overflow_cast-budget : goal.overflow_cast-budget
overflow_cast-budget c = let h = small_budget _ _ (sym c.in_ok-lent_verdict.ensures) in search rules

pub plan_departing-requires : goal.plan_departing-requires
plan_departing-requires c = let l = call_limits _ _ (sym c.in_ok-lent_verdict.ensures) in (l.1, l.0)

pub returns-in_err-lent_verdict : goal.returns-in_err-lent_verdict
returns-in_err-lent_verdict c =
    step_refused _ _ _ _ _ _ _ (stopped _ _ c.from_residual.ensures.1) (sym c.in_err-lent_verdict.ensures)

pub returns : goal.returns
returns c = step_on _ _ _ _ _ _ _ (sym c.in_ok-lent_verdict.ensures) c.plan_departing.ensures
