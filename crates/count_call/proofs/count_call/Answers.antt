-- A file that is refused refuses the call; one that is not gives its plan, and 10 to 12 are looked at.
use Rattle.std.proofs.Common.{sym, ap, ◌∙◌}
use Rattle.postman_laws.specs.Laws.Acceptance.{file_accepted}
use Rattle.plan_file.specs.Laws.Reading.{accepted_value, read_good}
use Rattle.call_steps.specs.Laws.Refused.{stopped}
use Rattle.count_call.specs.Contract.{count_answer}
use Rattle.count_call.specs.Laws.Call.{file_refused, file_good, call_refused, call_given}
use Rattle.count_call.proofs.count_call.Goals as goal

pub invariant_of-count_read-clause-well_formed : goal.invariant_of-count_read-clause-well_formed
invariant_of-count_read-clause-well_formed c = read_good c.in_ok-read_plan.ensures

pub returns-in_err-read_plan : goal.returns-in_err-read_plan
returns-in_err-read_plan c =
    ap count_answer (stopped _ _ c.from_residual.ensures.1) ∙ call_refused _ _ (file_refused _ _ (sym c.in_err-read_plan.ensures.verdict))

pub returns : goal.returns
returns c =
    let r = c.in_ok-read_plan.ensures in
    let e = sym r.verdict in
    c.count_read.ensures ∙ call_given _ _ (accepted_value _ _ r e) (file_good _ (file_accepted _ e) e)
