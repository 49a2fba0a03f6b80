-- A file that is refused refuses the call; one that is not gives its plan, and the rest of the conditions are looked at in their order.
use Rattle.std.proofs.Common.{◌≡◌, ◌∙◌, sym, ap, rules, Err}
use Rattle.plan_file.specs.Laws.Reading.{read_good}
use Rattle.distances.specs.Answer.{searched_answer}
use Rattle.distances.specs.Laws.Answer.{refused_call, read_call}
use Rattle.distances.proofs.call.distance_call.Goals as goal

pub invariant_of-plan_distances-clause-well_formed : goal.invariant_of-plan_distances-clause-well_formed
invariant_of-plan_distances-clause-well_formed c = read_good c.in_ok-read_plan.ensures

pub returns-in_err-read_plan : goal.returns-in_err-read_plan
returns-in_err-read_plan c =
    let all = refused_call _ _ _ c.in_err-read_plan.field-0.0 (sym c.in_err-read_plan.ensures.verdict) in
    let r : c.from_residual.result ≡ Err c.in_err-read_plan.field-0.0 = search rules in
    record { answered = ap searched_answer r ∙ all.0; distances_written = all.1 }

pub returns : goal.returns
returns c =
    let read = c.in_ok-read_plan.ensures in
    let all = read_call _ _ _ _ _ _ read (sym read.verdict) c.plan_distances.ensures in
    record { answered = all.0; distances_written = all.1 }
