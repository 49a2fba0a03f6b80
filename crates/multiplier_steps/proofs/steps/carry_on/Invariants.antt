-- The loop's state after so many turns is the model's. Assumes nothing.
use mathlib.Core.Path.{◌≡◌}
use lib.IntN.{pos}
use lib.ListN.{get_or, set}
use Rattle.multiplier_steps.specs.Turns.{turns}
use Rattle.multiplier_steps.specs.Steps.{capped, carried_to}
use Rattle.multiplier_steps.proofs.steps.carry_on.Given as goal

abbrev pub invariant-loop-v : goal.invariant-loop-v
invariant-loop-v l = l.z ≡ turns (λ r a'. set r (get_or l.vs.vertices.now a' 0) (carried_to (capped (get_or l.y (get_or l.vs.vertices.now a' 0) (pos 0))) (get_or l.x (get_or l.vs.vertices.now a' 0) (pos 0)) (get_or l.before (get_or l.vs.vertices.now a' 0) (pos 0)))) l.y l.v-index
