-- The loop's state after so many turns is the model's: turn 0 enters component 1.
use mathlib.Core.Path.{◌≡◌}
use Prim.Native.Nat.{◌+◌, ◌*◌, ◌-◌}
use Rattle.ascent_tree.specs.Tree.{enter}
use Rattle.multiplier_steps.specs.Turns.{turns}
use Rattle.ascent_tree.proofs.tree.extend.Given as goal

abbrev pub invariant-loop-q : goal.invariant-loop-q
invariant-loop-q l =
    (l.s ≡ 2 * l.i + 1) × ((l.cost, l.from) ≡ turns (λ t a. enter l.m (2 * l.i + 1) t (a + 1)) (l.initial.cost, l.initial.from) (l.q - 1))
