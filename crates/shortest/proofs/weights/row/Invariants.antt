-- The invariant: k − 1 rounds are done. A round that changes nothing ends the loop, and so does round n − 1.
use Prim.Native.Nat.{◌-◌, ◌≤◌}
use Rattle.plan.specs.Records.{plan_value}
use Rattle.shortest.specs.Weight.{weighted}
use Rattle.shortest.specs.Laws.Relaxation.{Rounds}
use Rattle.shortest.proofs.weights.row.Given as goal

abbrev pub invariant-loop : goal.invariant-loop
invariant-loop l = (1 ≤ l.counter) × (l.counter ≤ l.good.plan.n) × Rounds (weighted (plan_value l.good.plan)) l.source (l.counter - 1) l.now
