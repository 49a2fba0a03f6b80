-- After the turns for members below x, r is a cheapest of those.
use Rattle.cheapest_tree.specs.CostMatrix.{costs_in, IsBest}
use Rattle.cheapest_tree.proofs.cheapest.best.Given as goal

abbrev pub invariant-loop-x : goal.invariant-loop-x
invariant-loop-x l = IsBest (costs_in l.line) l.may l.x l.r
