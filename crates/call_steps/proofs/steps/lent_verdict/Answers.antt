-- The tests are the definition's, in its order.
use Rattle.std.proofs.Common.{sym, ap, ◌∙◌}
use Rattle.postman.specs.PlanCall.{sheet_places}
use Rattle.refusal.specs.Verdict.{verdict_number}
use Rattle.call_steps.specs.Laws.Chain.{sheet_refused, budget_refused, lent_good}
use Rattle.call_steps.specs.Laws.Refused.{stopped}
use Rattle.call_steps.proofs.steps.lent_verdict.Goals as goal

pub returns-then-places-lt17266 : goal.returns-then-places-lt17266
unfolding sheet_places
returns-then-places-lt17266 c = sheet_refused _ _ c.if-places-lt17266.true

pub returns-in_err-new : goal.returns-in_err-new
unfolding sheet_places
returns-in_err-new c =
    ap verdict_number (stopped _ _ c.from_residual.ensures.1) ∙ budget_refused _ _ _ c.if-places-lt17266.false (sym c.in_err-new.ensures)

pub returns : goal.returns
unfolding sheet_places
returns c = lent_good _ _ _ c.if-places-lt17266.false (sym c.in_ok-new.ensures)
