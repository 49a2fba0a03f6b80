-- What is left of the run, from the places as they are, ends in the circuit; each turn is one step of it. At the end the walk is used up, and the placed legs,
-- all of them, fill the places.
use Prim.Native.Nat.{◌-◌, ◌*◌}
use mathlib.Core.Path.{◌≡◌}
use lib.ListN.{drop}
use Rattle.hierholzer.specs.Circuit.{run, circuit}
use Rattle.hierholzer.specs.Held.{walk_of, HeldPath, Hints}
use Rattle.hierholzer.proofs.hierholzer.arrange.Given as goal

abbrev pub invariant-loop-at : goal.invariant-loop-at
invariant-loop-at l = HeldPath l.tails l.order l.used l.at.depth l.at.start × (circuit l.tails l.heads ≡ run l.tails l.heads (2 * l.at.start - l.at.depth) (walk_of l.order l.at.depth) (drop l.at.start l.order)) × Hints l.tails l.used l.hints

abbrev pub decreases-loop-at : goal.decreases-loop-at
decreases-loop-at l = 2 * l.at.start - l.at.depth
