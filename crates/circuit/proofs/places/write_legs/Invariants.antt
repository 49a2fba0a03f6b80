-- The legs up to x are written.
use lib.ListN.{length}
use Rattle.plan.specs.Rows.{plan_in}
use Rattle.paths.specs.ShortestPath.{shortest_path}
use Rattle.circuit.specs.Laws.Written.{WrittenTo}
use Rattle.circuit.proofs.places.write_legs.Given as goal

abbrev pub invariant-loop-e : goal.invariant-loop-e
invariant-loop-e l =
    WrittenTo (shortest_path (plan_in (length l.weights) l.arcs)) l.legs.numbers.now l.legs.tails.now l.legs.heads.now l.order l.initial.places l.e-index l.at l.places
