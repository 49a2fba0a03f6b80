-- The loop's state after so many turns is the model's. Assumes nothing.
use mathlib.Core.Path.{◌≡◌}
use Prim.Native.Nat.{◌≤◌}
use lib.IntN.{pos}
use lib.ListN.{set, replicate}
use Rattle.ascent_tree.specs.Tree.{extend}
use Rattle.multiplier_steps.specs.Turns.{turns}
use Rattle.residual_search.specs.Search.{beyond}
use Rattle.ascent_tree.proofs.tree.grow.Given as goal

abbrev pub invariant-loop-i : goal.invariant-loop-i
invariant-loop-i l =
    (l.i ≤ l.n) × (l.n ≤ 128) × ((l.cost, l.from) ≡ turns (extend l.m) (set (replicate 256 (pos beyond)) 0 (pos 0), replicate 256 0) l.i)
