-- The invariant: the rows before the kth hold the arcs, and the others are zeros.
use Rattle.plan.specs.Laws.Rows.{FilledTo}
use Rattle.plan.proofs.rows.rows_of.Given as goal

abbrev pub invariant-loop-k : goal.invariant-loop-k
invariant-loop-k l = FilledTo l.fn.plan l.rows l.k
