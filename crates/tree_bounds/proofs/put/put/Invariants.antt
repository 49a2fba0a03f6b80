-- After some turns the first of them stand at their places.
use Rattle.std.proofs.Common.{length, ◌≤◌}
use Rattle.tree_bounds.specs.Reducible.{ArePut}
use Rattle.tree_bounds.proofs.put.put.Given as goal

abbrev pub invariant-loop-v : goal.invariant-loop-v
invariant-loop-v g l = ArePut (λ v x. g.F.Fn.post l.of (v, tt) x) l.vs l.v-index l.r × (l.v-index ≤ length l.vs)
