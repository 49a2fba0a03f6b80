-- The invariant: no place before the ith is foreign.
use Rattle.postman.specs.Judge.{is_foreign}
use Rattle.drive_tally.specs.Rows.{plan_over}
use Rattle.drive_tally.specs.Laws.Places.{NoneBefore}
use Rattle.drive_tally.proofs.faults.has_foreign.Given as goal

abbrev pub invariant-loop-place : goal.invariant-loop-place
invariant-loop-place l = NoneBefore (is_foreign (plan_over l.arcs)) l.places l.place-index
