-- The loop's state after so many turns is the model's.
use mathlib.Core.Path.{◌≡◌}
use Prim.Native.Nat.{◌<◌}
use Rattle.ascent_tree.specs.Tree.{walk_back}
use Rattle.multiplier_steps.specs.Turns.{turns}
use Rattle.ascent_tree.proofs.tree.follow.Given as goal

abbrev pub invariant-loop : goal.invariant-loop
invariant-loop l = (l.left < 256) × ((l.y, l.left) ≡ turns (λ w a. walk_back l.from l.at l.s w) (l.x, l.t) l.counter)
