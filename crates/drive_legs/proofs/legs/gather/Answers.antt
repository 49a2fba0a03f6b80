-- The required arcs among the first k are noted.
use Rattle.std.proofs.Common.{◌≡◌, ap, ◌∙◌, sym, subst, arith, rules, get_or, take}
use Rattle.postman.specs.Plan.{is_required_arc}
use Rattle.plan.specs.Records.{plan_value, arc_value, record_at, zero_record}
use Rattle.plan.specs.Laws.Records.{plan_length, plan_arc, record_arcs, walked_below, walked_record, walked_all}
use Rattle.drive_legs.specs.Filled.{Noted, numbers_below}
use Rattle.drive_legs.specs.Laws.Noted.{noted_more, noted_same, noted_none, noted_all, noted_length, few_below}
use Rattle.drive_legs.proofs.legs.gather.Goals.{then-is_required, else-is_required}
use Rattle.drive_legs.proofs.legs.gather.Goals as goal

pub shared_ref_as_front-a-items : goal.shared_ref_as_front-a-items
shared_ref_as_front-a-items c = omega (arith, record_arcs c.args.good.now.plan c.args.good.now.well_formed)

pub loop-k-init : goal.loop-k-init
loop-k-init c = rw c.none-legs.ensures (noted_none (plan_value c.args.good.now.plan))

pub add_arc-requires : goal.add_arc-requires
add_arc-requires c =
    let p = plan_value c.args.good.now.plan in
    let l = c.loop-k in
    let n = noted_length p (numbers_below p l.k) l.legs l.invariant in
    let few = few_below p l.k in
    let b = walked_below c.args.good.now.plan c.args.good.now.well_formed _ c.from-m.ensures _ c.loop-k-test.true in
    let m = record_arcs c.args.good.now.plan c.args.good.now.well_formed in
    (omega arith, omega arith)

pub loop-k-preserved : goal.loop-k-preserved
loop-k-preserved c =
    let l = c.loop-k in
    let p = c.args.good.now.plan in
    let b = walked_below p c.args.good.now.well_formed _ c.from-m.ensures _ c.loop-k-test.true in
    let x = get_or (take c.from-m.result p.arcs) l.k zero_record in
    let a : record_at p.arcs l.k ≡ arc_value x
    = ap arc_value (sym (walked_record p c.args.good.now.well_formed _ c.from-m.ensures _ c.loop-k-test.true)) in
    let e = plan_arc p l.k b ∙ a in
    let r : c.is_required.result ≡ is_required_arc (arc_value x) = search rules in
    elim c.if-is_required.branch [
      | then-is_required w ↦ rw w.legs-is
          (noted_more (plan_value p) l.k (arc_value x) l.legs _ e (sym r ∙ w.if-is_required.true) l.invariant w.add_arc.ensures)
      | else-is_required w ↦ rw w.legs-is
          (noted_same (plan_value p) l.k (arc_value x) l.legs e (sym r ∙ w.if-is_required.false) l.invariant)
    ]

pub returns : goal.returns
returns c =
    let l = c.loop-k in
    let p = c.args.good.now.plan in
    let e = walked_all p c.args.good.now.well_formed _ c.from-m.ensures l.k (search rules) l.auto.k-end c.loop-k-test.false in
    subst (λ z. Noted (plan_value p) z l.legs)
    (ap (numbers_below (plan_value p)) (e ∙ sym (plan_length p)) ∙ noted_all (plan_value p)) l.invariant
