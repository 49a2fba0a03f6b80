-- The loop's state after so many turns is the model's.
use mathlib.Core.Path.{refl, sym, ap, ◌∙◌}
use native.Mathlib.Omega.{arith}
use Rattle.multiplier_steps.specs.Laws.Turns.{next_turn}
use Rattle.multiplier_steps.specs.Turns.{turns}
use Rattle.multipliers.specs.Ascent.{bound_of}
use Rattle.multipliers.specs.Laws.Climb.{ascent_is}
use Rattle.multipliers.proofs.ascend.Ascent.ascend.Goals as goal

pub loop-i-init : goal.loop-i-init
unfolding turns
loop-i-init c = (c.begun-c.ensures.1, λ p h. refl)

pub loop-i-preserved : goal.loop-i-preserved
loop-i-preserved c =
    (c.climb-c.ensures.1, λ p h. next_turn _ _ c.loop-i.i (c.loop-i.invariant.1 p h) (c.climb-c.ensures.0 p h))

pub returns : goal.returns
returns c =
    λ p h e.
    let r = ascent_is _ c.loop-i.i (c.begun-c.ensures.0 p h e) (c.loop-i.invariant.1 p h) (omega arith) (omega arith) refl in
    (c.held.ensures.0 ∙ r.0, c.held.ensures.1 ∙ r.1 ∙ ap (bound_of p) (sym c.held.ensures.0))
