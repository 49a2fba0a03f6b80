-- After k turns the row is relaxed by the first k arcs.
use Rattle.std.proofs.Common.{refl, ap, ◌∙◌, arith, rules, List, map, take, set}
use Rattle.postman.specs.Plan.{Arc}
use Rattle.plan.specs.Records.{plan_value}
use Rattle.plan.specs.Laws.Records.{record_arcs, arcs_all, walked_ends, walked_all}
use Rattle.shortest.specs.Weight.{heavy}
use Rattle.shortest.specs.Relaxation.{relax_arcs}
use Rattle.shortest.specs.Laws.Columns.{relaxed_walk}
use Rattle.shortest.proofs.weights.round.Goals as goal

pub shared_ref_as_front-a-items : goal.shared_ref_as_front-a-items
shared_ref_as_front-a-items c = omega (arith, record_arcs c.args.good.now.plan c.args.good.now.well_formed)

pub loop-a-init : goal.loop-a-init
unfolding relax_arcs
loop-a-init c = refl

pub bounds-next-t : goal.bounds-next-t
bounds-next-t c =
    let e = walked_ends c.args.good.now.plan c.args.good.now.well_formed _ c.from.ensures _ c.loop-a-test.true in
    omega arith

pub bounds-next-h : goal.bounds-next-h
bounds-next-h c =
    let e = walked_ends c.args.good.now.plan c.args.good.now.well_formed _ c.from.ensures _ c.loop-a-test.true in
    omega arith

pub bounds-next-h-in-loop-a : goal.bounds-next-h-in-loop-a
bounds-next-h-in-loop-a c =
    let e = walked_ends c.args.good.now.plan c.args.good.now.well_formed _ c.from.ensures _ c.loop-a-test.true in
    omega arith

pub loop-a-preserved : goal.loop-a-preserved
loop-a-preserved c =
    relaxed_walk c.args.good.now.plan c.args.good.now.well_formed _ c.from.ensures c.loop-a.a-index c.loop-a-test.true c.args.row _ _ _ c.from-t.ensures c.from-h.ensures c.arc_weight.ensures c.loop-a.invariant
    (ap (set c.loop-a.next _) c.shorter.ensures)

pub returns : goal.returns
returns c =
    let e = walked_all c.args.good.now.plan c.args.good.now.well_formed _ c.from.ensures c.loop-a.a-index (search rules) c.loop-a.auto.a-index-end c.loop-a-test.false in
    c.loop-a.invariant ∙ ap (λ (xs : List Arc). relax_arcs (map heavy xs) c.args.row) (ap (λ k. take k (plan_value c.args.good.now.plan).arcs) e ∙ arcs_all c.args.good.now.plan c.args.good.now.well_formed)
