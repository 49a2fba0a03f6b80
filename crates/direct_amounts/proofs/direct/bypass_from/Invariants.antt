-- The loop's state after each turn is the fold over the vertices so far. Assumes nothing.
use Rattle.std.proofs.Common.{◌≡◌, take}
use Rattle.residual_search.specs.Fold.{fold}
use Rattle.balance.specs.Invariant.{Sparse}
use Rattle.direct_amounts.specs.Direct.{bypass}
use Rattle.direct_amounts.proofs.direct.bypass_from.Given as goal

abbrev pub invariant-loop-c : goal.invariant-loop-c
invariant-loop-c l = record {
  sparse : Sparse l.vs l.f;
  so_far : l.f ≡ fold (λ g k. bypass g l.a l.b k) l.initial.f (take l.c-index l.vs);
}
