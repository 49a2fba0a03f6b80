-- After k turns the row is relaxed by the first k arcs.
use mathlib.Core.Path.{◌≡◌}
use mathlib.Core.List.{map}
use lib.ListN.{take}
use Rattle.plan.specs.Records.{plan_value}
use Rattle.shortest.specs.Weight.{heavy}
use Rattle.shortest.specs.Relaxation.{relax_arcs}
use Rattle.shortest.proofs.weights.round.Given as goal

abbrev pub invariant-loop-a : goal.invariant-loop-a
invariant-loop-a l = l.next ≡ relax_arcs (map heavy (take l.a-index (plan_value l.fn.good.plan).arcs)) l.initial.next
