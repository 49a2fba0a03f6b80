-- The search's invariant: nothing is dropped yet, and no via vertex stands before the kth. That of the loops over the pairs: what is held is what the model holds. The turn of a
-- pair ends at a `break`: it is not held, it is dropped by a via vertex, or there is none.
use mathlib.Core.Path.{◌≡◌}
use mathlib.Core.Bool.{false}
use Prim.Native.Nat.{ℕ, ◌-◌, ◌≤◌, ◌<◌}
use lib.ListN.{length}
use Rattle.network.specs.Thinning.{between, row_thinned, rows_thinned}
use Rattle.network.specs.Laws.Thinning.{Fewer}
use Rattle.network.proofs.thinning.thin.Given as goal

abbrev pub invariant-loop-k : goal.invariant-loop-k
invariant-loop-k l = (l.k ≤ 64) × (length l.held ≡ 4096) × (l.held ≡ l.initial.held) × ((m : ℕ) → m < l.k → between l.d l.held l.i l.j m ≡ false)

abbrev pub decreases-loop-k : goal.decreases-loop-k
decreases-loop-k l = 64 - l.k

abbrev pub invariant-pair : goal.invariant-pair
invariant-pair l = (length l.held ≡ 4096) × (l.held ≡ l.initial.held)

abbrev pub decreases-pair : goal.decreases-pair
decreases-pair l = 0

abbrev pub invariant-loop-j : goal.invariant-loop-j
invariant-loop-j l = (l.i < 64) × (l.j ≤ 64) × (length l.held ≡ 4096) × (l.held ≡ row_thinned l.d l.initial.held l.i l.j) × Fewer l.pairs l.held

abbrev pub decreases-loop-j : goal.decreases-loop-j
decreases-loop-j l = 64 - l.j

abbrev pub invariant-loop-i : goal.invariant-loop-i
invariant-loop-i l = (l.i ≤ 64) × (length l.held ≡ 4096) × (l.held ≡ rows_thinned l.d l.initial.held l.i) × Fewer l.pairs l.held

abbrev pub decreases-loop-i : goal.decreases-loop-i
decreases-loop-i l = 64 - l.i
