-- The loop's state after so many turns is the model's.
use mathlib.Core.List.{List}
use lib.IntN.{ℤ}
use mathlib.Core.Path.{refl, ap}
use Prim.Native.Nat.{ℕ}
use native.Mathlib.Omega.{arith}
use Rattle.multiplier_steps.specs.Laws.Turns.{next_turn, end}
use Rattle.ascent_tree.specs.Tree.{walk_back, along}
use Rattle.multiplier_steps.specs.Turns.{turns}
use Rattle.ascent_tree.proofs.tree.follow.Goals as goal

pub loop-init : goal.loop-init
unfolding turns
loop-init c = (omega arith, refl)

pub loop-preserved : goal.loop-preserved
loop-preserved c = (
  c.walk_back-left.ensures.1,
  next_turn (λ w a. walk_back c.args.from.now c.args.at.now c.args.s w) (c.args.x.now, c.args.t) c.loop.counter c.loop.invariant.1 c.walk_back-left.ensures.0,
)

pub returns : goal.returns
unfolding along
returns c = ap (λ (w : List ℤ × ℕ). w.0) (end _ _ c.loop.counter {n = 7} c.loop.invariant.1 (omega arith) (omega arith))
