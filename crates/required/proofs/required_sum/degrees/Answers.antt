-- The invariant: the counts are those of the arcs before the kth.
use Rattle.std.proofs.Common.{◌≡◌, ◌∙◌, arith, rules, cond, get_or, take}
use Rattle.postman.specs.Plan.{is_required_arc}
use Rattle.plan.specs.Laws.Records.{record_arcs, record_ends, walked_below, walked_record, walked_all}
use Rattle.plan.specs.Records.{record_at, arc_value, zero_record}
use Rattle.required.specs.Laws.RequiredSum.{degrees_none, degrees_more, sum_ends}
use Rattle.required.proofs.required_sum.degrees.Goals as goal

pub shared_ref_as_front-a-items : goal.shared_ref_as_front-a-items
shared_ref_as_front-a-items g c = omega (arith, record_arcs c.args.good.now.plan c.args.good.now.well_formed)

pub loop-a-init : goal.loop-a-init
loop-a-init g c = degrees_none g.f c.args.good.now.plan

pub bounds-counts-from : goal.bounds-counts-from
bounds-counts-from g c =
    let b = walked_below c.args.good.now.plan c.args.good.now.well_formed _ c.from.ensures _ c.loop-a-test.true in
    let a = walked_record c.args.good.now.plan c.args.good.now.well_formed _ c.from.ensures _ c.loop-a-test.true in
    let n = record_ends c.args.good.now.plan c.args.good.now.well_formed _ b in
    let h = c.requires.1.1.0 _ _ c.end.ensures in
    let e : c.from-in-loop-a-2.result ≡ g.f (record_at c.args.good.now.plan.arcs c.loop-a.a-index) = c.from-in-loop-a-2.ensures ∙ (rw a at h) in
    let l = c.requires.1.1.1 (record_at c.args.good.now.plan.arcs c.loop-a.a-index) n.0 n.1 in
    omega arith

pub bounds-counts-from-in-loop-a : goal.bounds-counts-from-in-loop-a
bounds-counts-from-in-loop-a g c =
    let b = walked_below c.args.good.now.plan c.args.good.now.well_formed _ c.from.ensures _ c.loop-a-test.true in
    let a = walked_record c.args.good.now.plan c.args.good.now.well_formed _ c.from.ensures _ c.loop-a-test.true in
    let n = record_ends c.args.good.now.plan c.args.good.now.well_formed _ b in
    let h = c.requires.1.1.0 _ _ c.end.ensures in
    let e : c.from-in-loop-a-2.result ≡ g.f (record_at c.args.good.now.plan.arcs c.loop-a.a-index) = c.from-in-loop-a-2.ensures ∙ (rw a at h) in
    let l = c.requires.1.1.1 (record_at c.args.good.now.plan.arcs c.loop-a.a-index) n.0 n.1 in
    omega arith

pub loop-a-preserved : goal.loop-a-preserved
loop-a-preserved g c =
    let b = walked_below c.args.good.now.plan c.args.good.now.well_formed _ c.from.ensures _ c.loop-a-test.true in
    let a = walked_record c.args.good.now.plan c.args.good.now.well_formed _ c.from.ensures _ c.loop-a-test.true in
    let n = record_ends c.args.good.now.plan c.args.good.now.well_formed _ b in
    let h = c.requires.1.1.0 _ _ c.end.ensures in
    let e : c.from-in-loop-a-2.result ≡ g.f (record_at c.args.good.now.plan.arcs c.loop-a.a-index) = c.from-in-loop-a-2.ensures ∙ (rw a at h) in
    let l = c.requires.1.1.1 (record_at c.args.good.now.plan.arcs c.loop-a.a-index) n.0 n.1 in
    let o : c.from-in-loop-a.result ≡ cond (is_required_arc (arc_value (get_or (take c.from.result c.args.good.now.plan.arcs) c.loop-a.a-index zero_record))) 1 0 = search rules in
    degrees_more g.f c.args.good.now.plan c.args.good.now.well_formed c.loop-a.invariant b e (omega arith) (rw a at o)

pub returns : goal.returns
returns g c =
    let m = record_arcs c.args.good.now.plan c.args.good.now.well_formed in
    let e = walked_all c.args.good.now.plan c.args.good.now.well_formed _ c.from.ensures c.loop-a.a-index (search rules) c.loop-a.auto.a-index-end c.loop-a-test.false in
    λ u l. let h = c.loop-a.invariant.each u l in let b = h.bounded in let f = h.before in (sum_ends c.args.good.now.plan c.args.good.now.well_formed (omega arith) g.f u h, omega arith)
