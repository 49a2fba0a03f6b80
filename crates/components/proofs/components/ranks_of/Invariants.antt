-- The invariant: the ranks before the vth are those of their vertices, and `all` is that of v.
use mathlib.Core.Path.{◌≡◌}
use Prim.Native.Nat.{◌≤◌}
use Rattle.components.specs.Labels.{roots_below}
use Rattle.plan.specs.Laws.Prefix.{Prefix}
use Rattle.components.proofs.components.ranks_of.Given as goal

abbrev pub invariant-loop-v : goal.invariant-loop-v
invariant-loop-v l = (l.all ≤ l.v) × (l.all ≡ roots_below l.required l.labels l.v) × Prefix 64 0 (roots_below l.required l.labels) l.rank-items l.v
