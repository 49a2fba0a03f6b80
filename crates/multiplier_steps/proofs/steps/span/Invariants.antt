-- The loop's state after so many turns is the model's. Assumes nothing.
use mathlib.Core.Path.{◌≡◌}
use Prim.Native.Nat.{max}
use lib.ListN.{get_or}
use Rattle.multiplier_steps.specs.Turns.{turns}
use Rattle.postman.specs.Steps.{cell}
use Rattle.multiplier_steps.proofs.steps.span.Given as goal

abbrev pub invariant-loop-v : goal.invariant-loop-v
invariant-loop-v l = (l.root ≡ get_or l.vs.vertices.now 0 0) × (l.most ≡ turns (λ r a'. max r (cell l.d (get_or l.vs.vertices.now a' 0) (get_or l.vs.vertices.now 0 0))) 0 l.v-index)
