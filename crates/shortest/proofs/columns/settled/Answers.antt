-- The invariant: k − 1 rounds are done, for every source. A round that changes nothing ends the loop, and so does round n − 1.
use mathlib.Core.Path.{subst⁻¹}
use Rattle.std.proofs.Common.{◌≡◌, sym, ◌∙◌}
use Prim.Native.Nat.{◌-◌}
use native.Mathlib.Omega.{arith}
use Rattle.plan.specs.Records.{plan_value}
use Rattle.plan.specs.Laws.Records.{plan_vertices, record_vertices}
use Rattle.shortest.specs.Weight.{weighted}
use Rattle.shortest.specs.Columns.{row_from}
use Rattle.shortest.specs.Laws.Weight.{is_weighted}
use Rattle.shortest.specs.Laws.Columns.{same_entries}
use Rattle.shortest.specs.Laws.Relaxation.{Rounds, rounds_none, rounds_next, rounds_row, settled_row}
use Rattle.shortest.proofs.columns.settled.Goals as goal

pub loop-init : goal.loop-init
loop-init c =
    let n = record_vertices c.args.good.now.plan c.args.good.now.well_formed in
    let w = weighted (plan_value c.args.good.now.plan) in
    (omega arith, omega arith, c.start-c.ensures.0, λ i l. subst⁻¹ (Rounds w i 0) (c.start-c.ensures.1 i l) (rounds_none w (is_weighted (plan_value c.args.good.now.plan) c.args.good.now.well_formed) i l))

pub returns-then-same_all : goal.returns-then-same_all
returns-then-same_all c =
    λ i l. settled_row (weighted (plan_value c.args.good.now.plan)) (is_weighted (plan_value c.args.good.now.plan) c.args.good.now.well_formed) i (c.loop.counter - 1) (row_from c.loop.c i) _ (c.loop.invariant.3 i l) (c.round_all.ensures.1 i l)
    (same_entries _ c.loop.c (sym c.same_all.ensures ∙ c.if-same_all.true) i l)

pub loop-preserved : goal.loop-preserved
loop-preserved c = (
  omega arith,
  omega arith,
  c.round_all.ensures.0,
  λ i l. rounds_next (weighted (plan_value c.args.good.now.plan)) (is_weighted (plan_value c.args.good.now.plan) c.args.good.now.well_formed) i c.loop.counter (row_from c.loop.c i) _ c.loop.invariant.0 (c.loop.invariant.3 i l) (c.round_all.ensures.1 i l),
)

pub returns : goal.returns
returns c =
    let n = plan_vertices c.args.good.now.plan in
    let e : c.loop.counter - 1 ≡ (plan_value c.args.good.now.plan).n - 1 = omega arith in
    λ i l. rounds_row (weighted (plan_value c.args.good.now.plan)) (is_weighted (plan_value c.args.good.now.plan) c.args.good.now.well_formed) i (row_from c.loop.c i) (rw e at (c.loop.invariant.3 i l))
