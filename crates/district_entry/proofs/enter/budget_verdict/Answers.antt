-- A budget outside its limits is refused as 9; else the rest decides.
use Rattle.std.proofs.Common.{sym, ◌∙◌}
use Rattle.call_steps.specs.Laws.Call.{budget_good}
use Rattle.call_steps.specs.Laws.Refused.{stopped}
use Rattle.district_entry.specs.Laws.Entered.{budget_stopped}
use Rattle.district_entry.proofs.enter.budget_verdict.Goals as goal

pub returns-in_err-new : goal.returns-in_err-new
returns-in_err-new c = rw (stopped _ _ c.from_residual.ensures.1) (sym (budget_stopped _ _ _ (sym c.in_err-new.ensures)))

pub returns : goal.returns
returns c = c.parts_verdict.ensures ∙ sym (budget_good _ _ _ (sym c.in_ok-new.ensures))
