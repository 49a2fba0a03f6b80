-- The invariant: no pair before the kth is stray.
use mathlib.Core.Path.{◌≡◌}
use mathlib.Core.Bool.{false}
use Prim.Native.Nat.{ℕ, ◌<◌}
use lib.ListN.{get_or}
use Rattle.postman.specs.DistanceCall.{is_stray}
use Rattle.distances.proofs.pairs.has_stray.Given as goal

abbrev pub invariant-loop-x : goal.invariant-loop-x
invariant-loop-x l = (j : ℕ) → j < l.x-index → is_stray l.n (get_or l.pairs j 0) ≡ false
