-- Where the sheet or the budget refuses, the answer is the refusal; where they do not, both are within their limits.
use Rattle.std.proofs.Common.{sym, rules}
use Rattle.postman_laws.specs.Laws.Acceptance.{call_limits}
use Rattle.call_steps.specs.Laws.Chain.{small_budget}
use Rattle.call_steps.specs.Laws.Refused.{stopped}
use Rattle.deep_call.specs.Laws.Call.{step_refused, step_on}
use Rattle.deep_call.proofs.call.deep_lent.Goals as goal

pub overflow_cast-budget : goal.overflow_cast-budget
overflow_cast-budget c = let h = small_budget _ _ (sym c.in_ok-lent_verdict.ensures) in search rules

pub deep_within-requires : goal.deep_within-requires
deep_within-requires c =
    let e = sym c.in_ok-lent_verdict.ensures in
    let l = call_limits _ _ e in
    (l.1, small_budget _ _ e, l.0)

pub returns-in_err-lent_verdict : goal.returns-in_err-lent_verdict
returns-in_err-lent_verdict c =
    step_refused _ _ _ _ _ _ _ _ (stopped _ _ c.from_residual.ensures.1) (sym c.in_err-lent_verdict.ensures)

pub returns : goal.returns
returns c = step_on _ _ _ _ _ _ _ _ (sym c.in_ok-lent_verdict.ensures) c.deep_within.ensures
