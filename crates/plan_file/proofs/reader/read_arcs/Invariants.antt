-- `read_arcs` meets its contract. The loop's invariant: the first k records are the arcs', and the later ones are zeros.
use mathlib.Core.Path.{◌≡◌}
use mathlib.Core.List.{map}
use Prim.Native.Nat.{◌≤◌, ◌-◌}
use Rattle.postman.specs.Lists.{below}
use Rattle.postman.specs.PlanFile.{arc_of}
use Rattle.plan.specs.Records.{records_of}
use Rattle.plan_file.proofs.reader.read_arcs.Given as goal

abbrev pub invariant-loop-k : goal.invariant-loop-k
invariant-loop-k l = (l.k ≤ l.m) × (l.arcs ≡ records_of (map (arc_of l.s l.edition) (below l.k)))

abbrev pub decreases-loop-k : goal.decreases-loop-k
decreases-loop-k l = l.m - l.k
