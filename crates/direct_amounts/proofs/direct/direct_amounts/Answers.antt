-- The loop's state after each turn is the fold over the vertices so far. Assumes nothing.
use Rattle.std.proofs.Common.{refl, ap, ◌∙◌, take_all}
use Rattle.std.proofs.Math.Path.{subst⁻¹}
use mathlib.Core.List.{Memᴰ}
use Rattle.postman.specs.Laws.Membership.{get_d_mem}
use Rattle.residual_search.specs.Fold.{fold}
use Rattle.residual_search.specs.Laws.Fold.{fold_turn}
use Rattle.balance.specs.Invariant.{Sparse}
use Rattle.postman.specs.Steps.{cell}
use Rattle.balance.specs.Records.{state_of}
use Rattle.direct_amounts.specs.Direct.{bypass_vertex, direct}
use Rattle.direct_amounts.specs.Laws.DirectBalance.{certified_sparse, vertex_sparse}
use Rattle.direct_amounts.proofs.direct.direct_amounts.Goals as goal

pub loop-b-init : goal.loop-b-init
unfolding fold
loop-b-init c = record {
  sparse = certified_sparse (cell c.args.d.now) c.args.vs.now c.requires.0 (state_of c.args.s) c.requires.1 c.requires.2;
  so_far = refl;
}

pub bypass_vertex-requires : goal.bypass_vertex-requires
bypass_vertex-requires c =
    (c.loop-b.invariant.sparse, subst⁻¹ (λ n. Memᴰ n c.args.vs.now) c.from.ensures (get_d_mem c.args.vs.now 0 c.loop-b.b-index c.loop-b-test.true))

pub loop-b-preserved : goal.loop-b-preserved
loop-b-preserved c =
    let vs = c.args.vs.now in
    let v = c.loop-b in
    let mb : Memᴰ c.from.result vs = subst⁻¹ (λ n. Memᴰ n vs) c.from.ensures (get_d_mem vs 0 v.b-index c.loop-b-test.true) in
    record {
      sparse = subst⁻¹ (Sparse vs) c.bypass_vertex.ensures (vertex_sparse vs v.f _ mb v.invariant.sparse);
      so_far = fold_turn (bypass_vertex vs) c.args.s.amounts vs v.b-index v.invariant.so_far c.loop-b-test.true c.from.ensures c.bypass_vertex.ensures;
    }

pub returns : goal.returns
unfolding direct
returns c = c.loop-b.invariant.so_far ∙ ap (fold _ _) (take_all _ _ c.loop-b-test.false)
