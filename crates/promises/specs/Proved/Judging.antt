-- The judging call, proved.
use Rattle.std.proofs.Common.{sym, ◌∙◌}
use Rattle.postman.specs.Judge.{judge_answer, judge_refusal}
use Rattle.promises.specs.Judging.{Refusals, Exactly, Costs, WrittenPasses, WrittenPassesAt, WrittenPassesCar, FloorBelow}
use Rattle.promises.specs.Laws.JudgedTheorem.{written_passes, written_passes_at, written_passes_car, floor_below}
use Rattle.promises.specs.Laws.Judged.{answer_refused}

pub refusals : Refusals
unfolding judge_answer
refusals bytes w j k =
    let a = answer_refused (judge_refusal bytes w) _ k in
    let e = j.contract.answer_is in
    ((λ h. a.0 (sym e ∙ h)), (λ h. e ∙ a.1 h))

pub exactly : Exactly
exactly bytes w j = j.contract.exactly

pub costs : Costs
costs bytes w j = j.contract.costs

pub passes : WrittenPasses
passes bytes budget sheet c good j = written_passes bytes budget sheet _ _ good c.contract _ j.contract

pub passes_at : WrittenPassesAt
passes_at bytes budget windows d sheet c good j = written_passes_at bytes budget sheet _ _ good windows d c.contract _ j.contract

pub passes_car : WrittenPassesCar
passes_car bytes budget sheet c good j = written_passes_car bytes budget sheet _ _ good c.contract _ j.contract

pub below : FloorBelow
below bytes budget sheet c good w j cost = floor_below bytes budget sheet _ _ good c.contract w _ j.contract cost
