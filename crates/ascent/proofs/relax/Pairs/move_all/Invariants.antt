-- The loop's state after so many turns is the model's. Assumes nothing.
use mathlib.Core.Path.{◌≡◌}
use lib.ListN.{get_or}
use Rattle.ascent.specs.Relax.{move_vertex}
use Rattle.multiplier_steps.specs.Turns.{turns}
use Rattle.ascent.proofs.relax.Pairs.move_all.Given as goal

abbrev pub invariant-loop-v : goal.invariant-loop-v
invariant-loop-v l =
    ((l.x, l.marks) ≡ turns (λ r a'. move_vertex l.self.d.now l.self.f.now l.self.up l.w l.base r (get_or l.self.vs.vertices.now a' 0)) (l.initial.x, l.initial.marks) l.v-index)
