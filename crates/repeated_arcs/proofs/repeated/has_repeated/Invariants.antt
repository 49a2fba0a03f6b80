-- The invariant: no number before the kth stands before itself. What is found, or not, of the numbers is so of the arcs.
use mathlib.Core.Path.{◌≡◌}
use Prim.Native.Nat.{ℕ, ◌-◌, ◌≤◌, ◌<◌}
use lib.ListN.{get_or}
use Rattle.repeated_arcs.proofs.repeated.has_repeated.Given as goal

abbrev pub invariant-loop-k : goal.invariant-loop-k
invariant-loop-k l = (l.k ≤ l.m) × ((i : ℕ) → i < l.k → (j : ℕ) → j < i → get_or l.numbers j 0 ≡ get_or l.numbers i 0 → ⊥)

abbrev pub decreases-loop-k : goal.decreases-loop-k
decreases-loop-k l = l.m - l.k
