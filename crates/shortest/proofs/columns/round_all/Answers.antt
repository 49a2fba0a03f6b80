-- After k turns each row is relaxed by the first k arcs.
use Rattle.std.proofs.Common.{refl, ap, ◌∙◌, arith, rules, List, map, take}
use Rattle.postman.specs.Plan.{Arc}
use Rattle.plan.specs.Records.{plan_value}
use Rattle.plan.specs.Laws.Records.{record_arcs, arcs_all, walked_ends, walked_all}
use Rattle.shortest.specs.Weight.{heavy}
use Rattle.shortest.specs.Relaxation.{relax_arcs}
use Rattle.shortest.specs.Columns.{row_from}
use Rattle.shortest.specs.Laws.Columns.{relaxed_walk}
use Rattle.shortest.proofs.columns.round_all.Goals as goal

pub shared_ref_as_front-a-items : goal.shared_ref_as_front-a-items
shared_ref_as_front-a-items c = omega (arith, record_arcs c.args.good.now.plan c.args.good.now.well_formed)

pub loop-a-init : goal.loop-a-init
unfolding relax_arcs
loop-a-init c = (c.requires, λ i l. refl)

pub relax_all-requires : goal.relax_all-requires
relax_all-requires c =
    let e = walked_ends c.args.good.now.plan c.args.good.now.well_formed _ c.from.ensures _ c.loop-a-test.true in
    (omega arith, omega arith, c.loop-a.invariant.0)

pub loop-a-preserved : goal.loop-a-preserved
loop-a-preserved c = (
  c.relax_all.ensures.0,
  λ i l. relaxed_walk c.args.good.now.plan c.args.good.now.well_formed _ c.from.ensures c.loop-a.a-index c.loop-a-test.true (row_from c.args.c.now i) _ _ _ c.from-in-loop-a.ensures c.from-in-loop-a-2.ensures
      c.arc_weight.ensures (c.loop-a.invariant.1 i l) (c.relax_all.ensures.1 i l),
)

pub returns : goal.returns
returns c =
    let e = walked_all c.args.good.now.plan c.args.good.now.well_formed _ c.from.ensures c.loop-a.a-index (search rules) c.loop-a.auto.a-index-end c.loop-a-test.false in (
      c.loop-a.invariant.0,
      λ i l. c.loop-a.invariant.1 i l
          ∙ ap (λ (xs : List Arc). relax_arcs (map heavy xs) (row_from c.args.c.now i)) (ap (λ k. take k (plan_value c.args.good.now.plan).arcs) e ∙ arcs_all c.args.good.now.plan c.args.good.now.well_formed),
    )
