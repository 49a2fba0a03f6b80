-- The invariant: the records before the kth hold the arcs between the new numbers.
use Rattle.std.proofs.Common.{◌≤◌}
use Rattle.postman.specs.Renumbering.{number_in, renumbered_arc}
use Rattle.plan.specs.Laws.Made.{HoldMade}
use Rattle.renumbering.proofs.renumbered.renumber.Given as goal

abbrev pub invariant-loop-k : goal.invariant-loop-k
invariant-loop-k l = (l.k ≤ l.fn.good.plan.m) × HoldMade l.fn.good.plan (λ k. renumbered_arc (number_in l.to)) l.arcs l.k
