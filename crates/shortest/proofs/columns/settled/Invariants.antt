-- The invariant: k − 1 rounds are done, for every source. A round that changes nothing ends the loop, and so does round n − 1.
use mathlib.Core.Path.{◌≡◌}
use Prim.Native.Nat.{ℕ, ◌-◌, ◌≤◌, ◌<◌}
use lib.ListN.{length}
use Rattle.plan.specs.Records.{plan_value}
use Rattle.shortest.specs.Weight.{weighted}
use Rattle.shortest.specs.Columns.{row_from}
use Rattle.shortest.specs.Laws.Relaxation.{Rounds}
use Rattle.shortest.proofs.columns.settled.Given as goal

abbrev pub invariant-loop : goal.invariant-loop
invariant-loop l = (1 ≤ l.counter) × (l.counter ≤ l.good.plan.n) × (length l.c ≡ 4096) × ((i : ℕ) → i < 64 → Rounds (weighted (plan_value l.good.plan)) i (l.counter - 1) (row_from l.c i))
