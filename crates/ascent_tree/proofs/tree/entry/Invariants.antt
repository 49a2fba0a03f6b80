-- The loop's state after so many turns is the model's, and `low` is the offer of its component.
use mathlib.Core.Path.{◌≡◌}
use Prim.Native.Nat.{◌+◌, ◌*◌, ◌-◌, ◌≤◌, ◌<◌}
use lib.IntN.{pos}
use lib.ListN.{get_or}
use Rattle.ascent_tree.specs.Tree.{cheaper}
use Rattle.multiplier_steps.specs.Turns.{turns}
use Rattle.ascent_tree.proofs.tree.entry.Given as goal

abbrev pub invariant-loop-p : goal.invariant-loop-p
invariant-loop-p l = (l.p ≤ 8) × (l.r < 8) × (l.low ≡ get_or l.m (l.r * 8 + l.q) (pos 0)) × (l.r ≡ turns (cheaper l.m l.s l.q) 0 l.p)

abbrev pub decreases-loop-p : goal.decreases-loop-p
decreases-loop-p l = 8 - l.p
