-- The invariant: the entries before the ith are those of column j.
use Rattle.std.proofs.Common.{[], get_or}
use Rattle.plan.specs.Laws.Prefix.{Prefix}
use Rattle.paths.proofs.path.column_to.Given as goal

abbrev pub invariant-loop-i : goal.invariant-loop-i
invariant-loop-i l = Prefix 64 0 (λ k. get_or (get_or l.table k []) l.j 0) l.column l.i
