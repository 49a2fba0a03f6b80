-- A list that is too long, or a file that is refused, is refused for that; else the plan that was read is judged.
use Rattle.std.proofs.Common.{◌≡◌, ◌∙◌, sym, ap, rules, Err}
use Rattle.postman.specs.Plan.{Plan}
use Rattle.postman.specs.Judge.{highest_places}
use Rattle.plan_file.specs.Laws.Reading.{accepted_value, read_good}
use Rattle.judge.specs.Contract.{plan_answer, judged_answer}
use Rattle.judge.specs.Laws.Call.{long_answer, file_answer, good_answer, is_judged}
use Rattle.judge.proofs.call.judge.Goals as goal

pub long_list-requires : goal.long_list-requires
unfolding highest_places
long_list-requires c = c.if-places-gt65535.true

pub returns-then-places-gt65535 : goal.returns-then-places-gt65535
returns-then-places-gt65535 c = is_judged _ _ _ (long_answer _ _ _ c.long_list.ensures)

pub judge_plan-requires : goal.judge_plan-requires
unfolding highest_places
judge_plan-requires c = c.if-places-gt65535.false

pub invariant_of-judge_plan-clause-well_formed : goal.invariant_of-judge_plan-clause-well_formed
invariant_of-judge_plan-clause-well_formed c = read_good c.in_ok-read_plan.ensures

pub returns-in_err-read_plan : goal.returns-in_err-read_plan
unfolding highest_places
returns-in_err-read_plan c =
    let read = c.in_err-read_plan.ensures in
    let r : c.from_residual.result ≡ Err c.in_err-read_plan.field-0.0 = search rules in
    is_judged _ _ _ (ap judged_answer r ∙ file_answer _ _ _ c.if-places-gt65535.false (sym read.verdict))

pub returns : goal.returns
unfolding highest_places
returns c =
    let read = c.in_ok-read_plan.ensures in
    let e = sym read.verdict in
    is_judged _ _ _ (c.judge_plan.ensures ∙ ap (λ (p : Plan). plan_answer p c.args.places.now) (accepted_value _ _ read e) ∙ good_answer _ _ c.if-places-gt65535.false e)
