-- The loop's state after each turn is the fold over the vertices so far. Assumes nothing.
use Rattle.std.proofs.Common.{refl, ap, ◌∙◌, take_all}
use Rattle.std.proofs.Math.Path.{subst⁻¹}
use mathlib.Core.List.{Memᴰ}
use Rattle.postman.specs.Laws.Membership.{get_d_mem}
use Rattle.residual_search.specs.Fold.{fold}
use Rattle.residual_search.specs.Laws.Fold.{fold_turn}
use Rattle.balance.specs.Invariant.{Sparse}
use Rattle.direct_amounts.specs.Direct.{bypass_from, bypass_vertex}
use Rattle.direct_amounts.specs.Laws.DirectBalance.{from_sparse}
use Rattle.direct_amounts.proofs.direct.bypass_vertex.Goals as goal

pub loop-a-init : goal.loop-a-init
unfolding fold
loop-a-init c = record { sparse = c.requires.0; so_far = refl }

pub bypass_from-requires : goal.bypass_from-requires
bypass_from-requires c =
    (c.loop-a.invariant.sparse, c.requires.1, subst⁻¹ (λ n. Memᴰ n c.args.vs.now) c.from.ensures (get_d_mem c.args.vs.now 0 c.loop-a.a-index c.loop-a-test.true))

pub loop-a-preserved : goal.loop-a-preserved
loop-a-preserved c =
    let vs = c.args.vs.now in
    let v = c.loop-a in
    let ma : Memᴰ c.from.result vs = subst⁻¹ (λ n. Memᴰ n vs) c.from.ensures (get_d_mem vs 0 v.a-index c.loop-a-test.true) in
    record {
      sparse = subst⁻¹ (Sparse vs) c.bypass_from.ensures (from_sparse vs v.f c.args.b _ c.requires.1 ma v.invariant.sparse);
      so_far = fold_turn (bypass_from vs c.args.b) c.args.f.now vs v.a-index v.invariant.so_far c.loop-a-test.true c.from.ensures c.bypass_from.ensures;
    }

pub returns : goal.returns
unfolding bypass_vertex
returns c = c.loop-a.invariant.so_far ∙ ap (fold _ _) (take_all _ _ c.loop-a-test.false)
