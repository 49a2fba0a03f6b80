-- What a progress by value holds.
use Rattle.std.specs.Prelude.{Bool, false, cond, ℕ, ◌+◌, ◌≤◌, eqb, leb, ltb}
use Rattle.small_counts.specs.Matrix.{cap}
use Rattle.branches.specs.declared.progress.Progress.{Progress}
use Rattle.branches.specs.Links.{links_in}
use Rattle.branches.specs.Progress.{Held, held}

-- What is held, with trees of m links.
abbrev pub held_in : ℕ → Progress → Held
held_in m g = held g.cost (links_in m g.tails g.heads) g.skip g.left

-- Whether a branch of n trees is gone into: some of them are tried, and the bound is less than the best so far.
abbrev pub is_entered : Progress → ℕ → ℕ → Bool
is_entered g n least = cond (leb n g.skip) false (cond (eqb g.left 0) false (ltb least g.cost))

-- Fewer trees are left than a count can say.
abbrev pub IsShort : Progress → Type 0
IsShort g = g.skip + g.left ≤ cap
