-- After each turn it is the least so far.
use Rattle.std.proofs.Common.{get_or, ◌≤◌, ◌+◌}
use Rattle.tree_bounds.specs.Reducible.{IsLeast}
use Rattle.tree_bounds.proofs.field.Field.least.Given as goal

abbrev pub invariant-loop-x : goal.invariant-loop-x
invariant-loop-x l =
    IsLeast l.self.d.now l.p l.self.candidates.now.tails l.self.candidates.now.heads (get_or l.self.candidates.now.start l.q 0) l.x l.least
    × (get_or l.self.candidates.now.start l.q 0 ≤ l.x) × (l.x ≤ get_or l.self.candidates.now.start (l.q + 1) 0)
