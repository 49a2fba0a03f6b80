-- The invariant: k − 1 rounds are done. A round that changes nothing ends the loop, and so does round n − 1.
use Rattle.std.proofs.Common.{◌≡◌, ap, List, ℕ, get_or, rules}
use Prim.Native.Nat.{◌-◌}
use native.Mathlib.Omega.{arith}
use Rattle.postman.specs.Distance.{no_path}
use Rattle.plan.specs.Records.{plan_value}
use Rattle.shortest.specs.Weight.{weighted}
use Rattle.shortest.specs.Relaxation.{start_row}
use Rattle.plan.specs.Laws.Records.{plan_vertices, record_vertices}
use Rattle.shortest.specs.Laws.Weight.{is_weighted}
use Rattle.shortest.specs.Laws.Relaxation.{rounds_none, rounds_next, rounds_row, settled_row}
use Rattle.shortest.proofs.weights.row.Goals as goal

pub loop-init : goal.loop-init
unfolding start_row no_path
loop-init c = let n = record_vertices c.args.good.now.plan c.args.good.now.well_formed in (omega arith, omega arith, rounds_none (weighted (plan_value c.args.good.now.plan)) (is_weighted (plan_value c.args.good.now.plan) c.args.good.now.well_formed) c.args.source c.requires)

pub returns-then-eq : goal.returns-then-eq
returns-then-eq c =
    settled_row (weighted (plan_value c.args.good.now.plan)) (is_weighted (plan_value c.args.good.now.plan) c.args.good.now.well_formed) c.args.source (c.loop.counter - 1) c.loop.now _ c.loop.invariant.2 c.round-next.ensures
    (λ j l. ap (λ (x : List ℕ). get_or x j 0) (search rules))

pub loop-preserved : goal.loop-preserved
loop-preserved c = (
  omega arith,
  omega arith,
  rounds_next (weighted (plan_value c.args.good.now.plan)) (is_weighted (plan_value c.args.good.now.plan) c.args.good.now.well_formed) c.args.source c.loop.counter c.loop.now _ c.loop.invariant.0 c.loop.invariant.2 c.round-next.ensures,
)

pub returns : goal.returns
returns c =
    let n = plan_vertices c.args.good.now.plan in
    let e : c.loop.counter - 1 ≡ (plan_value c.args.good.now.plan).n - 1 = omega arith in
    rounds_row (weighted (plan_value c.args.good.now.plan)) (is_weighted (plan_value c.args.good.now.plan) c.args.good.now.well_formed) c.args.source c.loop.now (rw e at c.loop.invariant.2)
