-- The loop's state after so many turns is the model's. Assumes nothing.
use mathlib.Core.Path.{◌≡◌}
use lib.IntN.{pos}
use lib.ListN.{get_or, set, replicate}
use Rattle.multiplier_steps.specs.Turns.{turns}
use Rattle.multiplier_steps.specs.Steps.{capped}
use Rattle.multiplier_steps.proofs.steps.capped_all.Given as goal

abbrev pub invariant-loop-v : goal.invariant-loop-v
invariant-loop-v l = l.u ≡ turns (λ r a'. set r (get_or l.vs.vertices.now a' 0) (capped (get_or l.x (get_or l.vs.vertices.now a' 0) (pos 0)))) (replicate 64 (pos 0)) l.v-index
