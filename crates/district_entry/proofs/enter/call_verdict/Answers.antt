-- A file that is refused refuses the entry; one that is not gives its plan.
use Rattle.std.proofs.Common.{sym, ap, ◌∙◌}
use Rattle.postman.specs.Plan.{Plan}
use Rattle.plan_file.specs.Laws.Reading.{accepted_value, read_good}
use Rattle.call_steps.specs.Refusals.{budget_refusal}
use Rattle.call_steps.specs.Laws.Refused.{stopped}
use Rattle.district_entry.specs.Laws.Entered.{part_file, part_good}
use Rattle.district_entry.proofs.enter.call_verdict.Goals as goal

pub invariant_of-budget_verdict-clause-well_formed : goal.invariant_of-budget_verdict-clause-well_formed
invariant_of-budget_verdict-clause-well_formed c = read_good c.in_ok-reading.ensures

pub returns-in_err-reading : goal.returns-in_err-reading
returns-in_err-reading c = rw (stopped _ _ c.from_residual.ensures.1) (sym (part_file _ _ _ (sym c.in_err-reading.ensures.verdict)))

pub returns : goal.returns
returns c =
    let i = c.in_ok-reading.ensures in
    let e = sym i.verdict in
    c.budget_verdict.ensures ∙ ap (λ (p : Plan). budget_refusal p c.args.budget) (accepted_value _ _ i e) ∙ sym (part_good _ c.args.budget e)
