-- The records hold the marked arcs.
use Rattle.std.proofs.Common.{◌<◌, ◌∙◌, ap, arith}
use Rattle.std.proofs.lemmas.List.{get_or-take, length-take}
use Rattle.plan.specs.Records.{zero_record, record_of, arc_value}
use Rattle.plan.specs.Laws.Prefix.{prefix_more}
use Rattle.car_marks.specs.Laws.Marks.{mark_arc, plan_marked}
use Rattle.car_marks.proofs.marks.car_plan.Goals as goal

pub loop-k-preserved : goal.loop-k-preserved
loop-k-preserved c =
    let p = c.args.plan in
    let k = c.loop-k.k in
    let l : k < c.from.result = omega (arith, length-take c.from.result p.arcs) in (
      omega arith,
      prefix_more 256 zero_record _ c.loop-k.arcs k _ c.loop-k.invariant.1 (omega arith)
          (c.marked.ensures
          ∙ ap (λ a. record_of (mark_arc p c.args.marks.now k (arc_value a))) (get_or-take c.from.result p.arcs k zero_record l)),
    )

pub returns : goal.returns
returns c =
    plan_marked c.args.plan c.args.marks.now c.loop-k.arcs c.loop-k.k c.loop-k.invariant.1
    (omega (arith, length-take c.from.result c.args.plan.arcs))
