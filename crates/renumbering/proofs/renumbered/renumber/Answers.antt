-- By the limits of a plan.
use Rattle.std.proofs.Common.{◌<◌, ◌∙◌, ap, arith}
use Rattle.std.proofs.lemmas.List.{get_or-take, length-take}
use Rattle.postman.specs.Renumbering.{number_in, renumbered_arc}
use Rattle.plan.specs.Records.{zero_record, record_of, arc_value}
use Rattle.plan.specs.Laws.Prefix.{prefix_more}
use Rattle.plan.specs.Laws.Records.{record_arcs, record_ends}
use Rattle.renumbering.specs.Laws.Renumbered.{plan_renumbered}
use Rattle.renumbering.proofs.renumbered.renumber.Goals as goal

pub shared_ref_as_front-a-items : goal.shared_ref_as_front-a-items
shared_ref_as_front-a-items c = let h = record_arcs _ c.args.good.now.well_formed in omega arith

pub renumber_arc-requires : goal.renumber_arc-requires
renumber_arc-requires c =
    let arcs = c.args.good.now.plan.arcs in
    let k = c.loop-k.k in
    let l : k < c.from.result = omega (arith, length-take c.from.result arcs) in
    let e = record_ends _ c.args.good.now.well_formed k (omega arith) in
    rw (get_or-take c.from.result arcs k zero_record l) (e.0, e.1, c.requires)

pub loop-k-preserved : goal.loop-k-preserved
loop-k-preserved c =
    let arcs = c.args.good.now.plan.arcs in
    let k = c.loop-k.k in
    let l : k < c.from.result = omega (arith, length-take c.from.result arcs) in
    let h = record_arcs _ c.args.good.now.well_formed in (
      omega arith,
      prefix_more 256 zero_record _ c.loop-k.arcs k _ c.loop-k.invariant.1 (omega arith)
          (c.renumber_arc.ensures
          ∙ ap (λ a. record_of (renumbered_arc (number_in c.args.to.now) (arc_value a))) (get_or-take c.from.result arcs k zero_record l)),
    )

pub returns : goal.returns
returns c = plan_renumbered _ _ c.loop-k.arcs c.loop-k.k c.loop-k.invariant.1 (omega (arith, length-take c.from.result c.args.good.now.plan.arcs, record_arcs _ c.args.good.now.well_formed))
