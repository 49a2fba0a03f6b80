-- The loop's state after each turn is the fold over the vertices so far. Assumes nothing.
use Rattle.std.proofs.Common.{◌≡◌, take}
use Rattle.residual_search.specs.Fold.{fold}
use Rattle.balance.specs.Invariant.{Sparse}
use Rattle.direct_amounts.specs.Direct.{bypass_from}
use Rattle.direct_amounts.proofs.direct.bypass_vertex.Given as goal

abbrev pub invariant-loop-a : goal.invariant-loop-a
invariant-loop-a l = record {
  sparse : Sparse l.vs l.f;
  so_far : l.f ≡ fold (bypass_from l.vs l.b) l.initial.f (take l.a-index l.vs);
}
