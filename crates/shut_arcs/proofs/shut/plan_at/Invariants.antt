-- The invariant: the records before the kth hold the arcs, closed where they are shut.
use Rattle.std.proofs.Common.{◌≤◌}
use Rattle.postman.specs.Windows.{windows_in}
use Rattle.plan.specs.Laws.Made.{HoldMade}
use Rattle.shut_arcs.specs.Fields.{departure}
use Rattle.shut_arcs.specs.Laws.Shut.{shut_arc}
use Rattle.shut_arcs.proofs.shut.plan_at.Given as goal

abbrev pub invariant-loop-k : goal.invariant-loop-k
invariant-loop-k l = (l.k ≤ l.fn.plan.m)
    × HoldMade l.fn.plan (shut_arc l.fn.plan (windows_in l.fn.windows) (departure l.fn.weekday l.fn.minute)) l.arcs l.k
