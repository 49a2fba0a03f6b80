-- The invariant: the list holds the vertices below v whose flag is set.
use Rattle.std.proofs.Common.{false, get_or}
use Rattle.postman.specs.Lists.{select, below}
use Rattle.candidates.specs.Holds.{Holds}
use Rattle.candidates.proofs.vertices_of.Given as goal

abbrev pub invariant-loop-v : goal.invariant-loop-v
invariant-loop-v l = Holds 64 l.list l.count (select (λ v'. get_or l.fn.required v' false) (below l.v))
