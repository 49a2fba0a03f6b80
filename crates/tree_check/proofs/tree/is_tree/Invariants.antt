-- The invariant: the links before the qth enter their components, and the sets of their sources are kept.
use mathlib.Core.Path.{◌≡◌}
use Prim.Native.Nat.{ℕ, ◌-◌, ◌≤◌, ◌<◌}
use lib.ListN.{length}
use Rattle.tree_check.specs.Laws.Tree.{Checked}
use Rattle.tree_check.proofs.tree.is_tree.Given as goal

abbrev pub invariant-loop-q : goal.invariant-loop-q
invariant-loop-q l = (1 ≤ l.q) × (l.q ≤ l.k) × (l.k ≤ 8) × (length l.sets ≡ 8) × ((j : ℕ) → 1 ≤ j → j < l.q → Checked l.links l.component l.tails l.heads l.sets j)

abbrev pub decreases-loop-q : goal.decreases-loop-q
decreases-loop-q l = l.k - l.q
