-- The invariant: there is no gap before place i of the rest, and v is the head of the arc before it.
use Rattle.drive_tally.specs.Rows.{plan_over}
use Rattle.drive_tally.specs.Laws.Faults.{NoGapBefore}
use Rattle.drive_tally.proofs.faults.is_unjoined.Given as goal

abbrev pub invariant-loop-place : goal.invariant-loop-place
invariant-loop-place l = NoGapBefore (plan_over l.arcs) l.places l.rest l.start l.v l.place-index
