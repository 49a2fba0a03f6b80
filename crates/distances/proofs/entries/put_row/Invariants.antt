-- The invariant: the entries of the pairs before the kth are put.
use mathlib.Core.Path.{◌≡◌}
use Prim.Native.Nat.{◌-◌}
use lib.ListN.{length}
use Rattle.postman.specs.DistanceCall.{first, second}
use Rattle.distances.specs.Filling.{entry_by}
use Rattle.distances.specs.Laws.Filling.{PutTo}
use Rattle.distances.proofs.entries.put_row.Given as goal

abbrev pub invariant-loop-k : goal.invariant-loop-k
invariant-loop-k l =
    (l.k-end ≡ length l.pairs) × PutTo (λ x e. entry_by l.source l.row (first x) (second x) e) l.pairs l.initial.distances l.distances l.k

abbrev pub decreases-loop-k : goal.decreases-loop-k
decreases-loop-k l = l.k-end - l.k
