-- The loop's state after each turn is the fold over the vertices so far. Assumes nothing.
use Rattle.std.proofs.Common.{◌≡◌, take}
use Rattle.residual_search.specs.Fold.{fold}
use Rattle.balance.specs.Invariant.{Sparse}
use Rattle.direct_amounts.specs.Direct.{bypass_vertex}
use Rattle.direct_amounts.proofs.direct.direct_amounts.Given as goal

abbrev pub invariant-loop-b : goal.invariant-loop-b
invariant-loop-b l = record {
  sparse : Sparse l.vs l.f;
  so_far : l.f ≡ fold (bypass_vertex l.vs) l.initial.f (take l.b-index l.vs);
}
