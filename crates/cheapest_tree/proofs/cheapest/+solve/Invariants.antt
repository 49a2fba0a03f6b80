-- A circle that is shrunk leaves fewer components.
use Rattle.std.proofs.Common.{length}
use Rattle.cheapest_tree.specs.CostMatrix.{others_in}
use Rattle.cheapest_tree.proofs.cheapest.+solve.Given as goal

abbrev pub decreases-solve : goal.decreases-solve
decreases-solve l = length (others_in l.left)
