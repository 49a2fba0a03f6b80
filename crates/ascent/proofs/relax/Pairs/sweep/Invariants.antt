-- The loop's state after so many turns is the model's. Assumes nothing.
use mathlib.Core.Path.{◌≡◌}
use lib.ListN.{get_or}
use Rattle.ascent.specs.Relax.{ask}
use Rattle.multiplier_steps.specs.Turns.{turns}
use Rattle.ascent.proofs.relax.Pairs.sweep.Given as goal

abbrev pub invariant-loop-w : goal.invariant-loop-w
invariant-loop-w l =
    ((l.x, l.marks) ≡ turns (λ r a'. ask l.self.d.now l.self.f.now l.self.up l.self.vs.vertices.now r (get_or l.self.vs.vertices.now a' 0)) (l.initial.x, l.initial.marks) l.w-index)
