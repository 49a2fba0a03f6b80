-- The invariant: the sum is that of the arcs before the kth, of at most 65,535 each.
use Rattle.std.proofs.Common.{arith, rules, ℕ, ◌≤◌}
use Rattle.postman.specs.Plan.{Arc, IsArc}
use Rattle.plan.specs.Laws.Records.{record_arcs, walked_below, walked_record, walked_all}
use Rattle.required.specs.Laws.RequiredSum.{summed_none, term_le, summed_more, sum_service}
use Rattle.required.proofs.required_sum.required_cost.Goals as goal

dear : (n : ℕ) (a : Arc) → IsArc n a → a.service ≤ 65535
dear n a h = h.service_in

pub shared_ref_as_front-a-items : goal.shared_ref_as_front-a-items
shared_ref_as_front-a-items c = omega (arith, record_arcs c.args.good.now.plan c.args.good.now.well_formed)

pub loop-a-init : goal.loop-a-init
loop-a-init c = summed_none (λ a. a.service) 65535 c.args.good.now.plan

pub overflow_add-sum : goal.overflow_add-sum
overflow_add-sum c =
    let m = record_arcs c.args.good.now.plan c.args.good.now.well_formed in
    let b = walked_below c.args.good.now.plan c.args.good.now.well_formed _ c.from.ensures _ c.loop-a-test.true in
    let a = walked_record c.args.good.now.plan c.args.good.now.well_formed _ c.from.ensures _ c.loop-a-test.true in
    let o = term_le c.args.good.now.plan c.args.good.now.well_formed (dear _) c.loop-a.invariant b (rw a at c.charge-sum.ensures) in
    omega arith

pub loop-a-preserved : goal.loop-a-preserved
loop-a-preserved c =
    let b = walked_below c.args.good.now.plan c.args.good.now.well_formed _ c.from.ensures _ c.loop-a-test.true in
    let a = walked_record c.args.good.now.plan c.args.good.now.well_formed _ c.from.ensures _ c.loop-a-test.true in
    summed_more c.args.good.now.plan c.args.good.now.well_formed (dear _) c.loop-a.invariant b (rw a at c.charge-sum.ensures)

pub returns : goal.returns
returns c =
    let e = walked_all c.args.good.now.plan c.args.good.now.well_formed _ c.from.ensures c.loop-a.a-index (search rules) c.loop-a.auto.a-index-end c.loop-a-test.false in
    sum_service c.args.good.now.plan c.args.good.now.well_formed (omega arith) c.loop-a.invariant
