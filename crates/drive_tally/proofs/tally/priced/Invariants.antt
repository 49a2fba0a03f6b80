-- The invariant: what was spent, what is due and the places from the ith on are the tally of the whole list, whose cost leaves room for the sum.
use Rattle.drive_tally.specs.Rows.{plan_over}
use Rattle.drive_tally.specs.Laws.Tally.{IsTallied}
use Rattle.drive_tally.proofs.tally.priced.Given as goal

abbrev pub invariant-loop-place : goal.invariant-loop-place
invariant-loop-place l = IsTallied (plan_over l.arcs) l.places l.due l.cost l.place-index
