-- The invariant: what is written and what is to come are the path. The measure is what is to come.
use Prim.Native.Nat.{◌+◌, ◌-◌}
use lib.ListN.{length}
use Rattle.plan.specs.Rows.{plan_in}
use Rattle.shortest.specs.Weight.{weighted}
use Rattle.paths.specs.ShortestPath.{cheapest_path}
use Rattle.paths.specs.Laws.PathWriting.{Writing}
use Rattle.paths.proofs.path.path.Given as goal

abbrev pub invariant-loop-v : goal.invariant-loop-v
invariant-loop-v l = Writing (weighted (plan_in (length l.column) l.arcs)) l.i l.j l.initial.places l.at l.places l.v l.to

abbrev pub decreases-loop-v : goal.decreases-loop-v
decreases-loop-v l = l.at + length (cheapest_path (weighted (plan_in (length l.column) l.arcs)) l.i l.j) - l.to
