-- The records hold the arcs, closed where they are shut.
use Rattle.std.proofs.Common.{◌<◌, ◌∙◌, ap, arith}
use Rattle.std.proofs.lemmas.List.{get_or-take, length-take}
use Rattle.postman.specs.Windows.{windows_in}
use Rattle.plan.specs.Records.{zero_record, record_of, arc_value}
use Rattle.plan.specs.Laws.Prefix.{prefix_more}
use Rattle.shut_arcs.specs.Fields.{departure}
use Rattle.shut_arcs.specs.Laws.Shut.{shut_arc, plan_shut}
use Rattle.shut_arcs.proofs.shut.plan_at.Goals as goal

pub loop-k-preserved : goal.loop-k-preserved
loop-k-preserved c =
    let p = c.args.plan in
    let k = c.loop-k.k in
    let l : k < c.from.result = omega (arith, length-take c.from.result p.arcs) in (
      omega arith,
      prefix_more 256 zero_record _ c.loop-k.arcs k _ c.loop-k.invariant.1 (omega arith)
          (c.arc_at.ensures
          ∙ ap (λ a. record_of (shut_arc p (windows_in c.args.windows.now) (departure c.args.weekday c.args.minute) k (arc_value a)))
          (get_or-take c.from.result p.arcs k zero_record l)),
    )

pub returns : goal.returns
returns c =
    plan_shut c.args.plan (windows_in c.args.windows.now) (departure c.args.weekday c.args.minute) c.loop-k.arcs c.loop-k.k
    c.loop-k.invariant.1 (omega (arith, length-take c.from.result c.args.plan.arcs))
