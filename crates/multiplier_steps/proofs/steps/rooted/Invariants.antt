-- The loop's state after so many turns is the model's. Assumes nothing.
use mathlib.Core.Path.{◌≡◌}
use lib.IntN.{pos, ◌-ℤ◌}
use lib.ListN.{get_or, set, replicate}
use Rattle.multiplier_steps.specs.Turns.{turns}
use Rattle.multiplier_steps.proofs.steps.rooted.Given as goal

abbrev pub invariant-loop-v : goal.invariant-loop-v
invariant-loop-v l = (l.base ≡ get_or l.x (get_or l.vs.vertices.now 0 0) (pos 0)) × (l.u ≡ turns (λ r a'. set r (get_or l.vs.vertices.now a' 0) (get_or l.x (get_or l.vs.vertices.now a' 0) (pos 0) -ℤ get_or l.x (get_or l.vs.vertices.now 0 0) (pos 0))) (replicate 64 (pos 0)) l.v-index)
