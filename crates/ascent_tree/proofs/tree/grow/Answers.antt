-- The loop's state after so many turns is the model's. Assumes nothing.
use mathlib.Core.Path.{refl}
use native.Mathlib.Omega.{arith}
use Rattle.multiplier_steps.specs.Laws.Turns.{next_turn, end}
use Rattle.ascent_tree.specs.Tree.{grown}
use Rattle.multiplier_steps.specs.Turns.{turns}
use Rattle.ascent_tree.proofs.tree.grow.Goals as goal

pub loop-i-init : goal.loop-i-init
unfolding turns
loop-i-init c = (omega arith, omega arith, refl)

pub loop-i-preserved : goal.loop-i-preserved
loop-i-preserved c =
    (omega arith, c.loop-i.invariant.1, next_turn _ _ c.loop-i.i c.loop-i.invariant.2 c.extend.ensures)

pub returns : goal.returns
unfolding grown
returns c = end _ _ c.loop-i.i c.loop-i.invariant.2 c.loop-i.invariant.0 c.loop-i-test.false
