-- The invariant: the arcs before the kth are counted.
use mathlib.Core.Path.{◌≡◌, subst, subst⁻¹}
use Rattle.std.proofs.Common.{rules, sym, ◌∙◌}
use Prim.Native.Nat.{ℕ, ◌+◌, ◌<◌}
use mathlib.Core.List.{List}
use native.Mathlib.Omega.{arith}
use lib.ListN.{length, get_or}
use Rattle.postman.specs.Plan.{Arc, WellFormed}
use Rattle.plan.specs.declared.Plan.{Plan as PlanRecord}
use Rattle.plan.specs.Records.{plan_value, record_at}
use Rattle.plan.specs.Laws.Records.{plan_length, plan_arc, record_arcs, walked_below, walked_record, walked_ends, walked_all}
use Rattle.components.specs.Labels.{Labelled, label_after}
use Rattle.components.specs.Laws.Labels.{labelled_none, labelled_arc}
use Rattle.components.proofs.labels.labels_of.Goals as goal

counted : (r : PlanRecord) (ok : WellFormed (plan_value r)) (k : ℕ) (labels new : List ℕ) → k < r.m → Labelled (plan_value r) k labels → length new ≡ 64
    → ((v : ℕ) → v < 64 → get_or new v 0 ≡ label_after (record_at r.arcs k) labels v) → Labelled (plan_value r) (k + 1) new
counted r ok k labels new l h size at =
    let n = plan_length r in
    labelled_arc (plan_value r) ok k labels new (omega arith) h size (λ v g. subst⁻¹ (λ (a : Arc). get_or new v 0 ≡ label_after a labels v) (plan_arc r k l) (at v g))

pub shared_ref_as_front-a-items : goal.shared_ref_as_front-a-items
shared_ref_as_front-a-items c = omega (arith, record_arcs c.args.good.now.plan c.args.good.now.well_formed)

pub loop-a-init : goal.loop-a-init
loop-a-init c = labelled_none (plan_value c.args.good.now.plan) c.args.good.now.well_formed _ c.own_labels-labels.ensures.0 c.own_labels-labels.ensures.1

pub merged-next-requires : goal.merged-next-requires
merged-next-requires c =
    let e = walked_ends c.args.good.now.plan c.args.good.now.well_formed _ c.from.ensures _ c.loop-a-test.true in
    (e.0, e.1, c.loop-a.invariant.size)

pub loop-a-preserved : goal.loop-a-preserved
loop-a-preserved c =
    let b = walked_below c.args.good.now.plan c.args.good.now.well_formed _ c.from.ensures _ c.loop-a-test.true in
    let a = walked_record c.args.good.now.plan c.args.good.now.well_formed _ c.from.ensures _ c.loop-a-test.true in
    counted c.args.good.now.plan c.args.good.now.well_formed c.loop-a.a-index c.loop-a.labels _ b c.loop-a.invariant c.merged-next.ensures.0 (rw a at c.merged-next.ensures.1)

pub returns : goal.returns
returns c =
    let n = plan_length c.args.good.now.plan in
    let e = walked_all c.args.good.now.plan c.args.good.now.well_formed _ c.from.ensures c.loop-a.a-index (search rules) c.loop-a.auto.a-index-end c.loop-a-test.false in
    subst (λ k. Labelled (plan_value c.args.good.now.plan) k c.loop-a.labels) (e ∙ sym n) c.loop-a.invariant
