-- The invariant: the chain of the arcs from the kth on.
use Rattle.paths.specs.Laws.Leaving.{IsChainFrom}
use Rattle.paths.proofs.path.chain_of.Given as goal

abbrev pub invariant-loop-k : goal.invariant-loop-k
invariant-loop-k l = IsChainFrom l.arcs l.chain l.k
