-- s is what the components from q on pay.
use Rattle.std.proofs.Common.{◌≤◌}
use Rattle.cheapest_tree.specs.Laws.CostMatrix.{Paid}
use Rattle.cheapest_tree.proofs.cheapest.paid.Given as goal

abbrev pub invariant-loop-q : goal.invariant-loop-q
invariant-loop-q l = record { from_one : 1 ≤ l.q; to_eight : l.q ≤ 8; pays : Paid l.w l.left l.e l.q l.s }
