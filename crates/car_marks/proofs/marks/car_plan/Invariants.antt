-- The invariant: the records before the kth hold the marked arcs.
use Rattle.std.proofs.Common.{◌≤◌}
use Rattle.plan.specs.Laws.Made.{HoldMade}
use Rattle.car_marks.specs.Laws.Marks.{mark_arc}
use Rattle.car_marks.proofs.marks.car_plan.Given as goal

abbrev pub invariant-loop-k : goal.invariant-loop-k
invariant-loop-k l = (l.k ≤ l.fn.plan.m) × HoldMade l.fn.plan (mark_arc l.fn.plan l.fn.marks) l.arcs l.k
