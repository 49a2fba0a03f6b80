-- The invariant: no arc before the kth begins a lightest path, and k leaves v.
use Prim.Native.Nat.{◌-◌}
use lib.ListN.{length}
use Rattle.paths.specs.Laws.Leaving.{Meets}
use Rattle.paths.proofs.path.next_arc.Given as goal

abbrev pub invariant-loop-k : goal.invariant-loop-k
invariant-loop-k l = Meets l.arcs l.column l.v (length l.arcs) l.k

abbrev pub decreases-loop-k : goal.decreases-loop-k
decreases-loop-k l = length l.arcs - l.k
