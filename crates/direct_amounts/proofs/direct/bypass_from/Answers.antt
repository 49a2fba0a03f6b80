-- The loop's state after each turn is the fold over the vertices so far. Assumes nothing.
use Rattle.std.proofs.Common.{refl, sym, ap, ◌∙◌, arith, take_all}
use Rattle.std.proofs.Math.Path.{subst⁻¹}
use mathlib.Core.List.{Memᴰ}
use Rattle.postman.specs.Laws.Membership.{get_d_mem}
use Rattle.residual_search.specs.Fold.{fold}
use Rattle.residual_search.specs.Laws.Fold.{fold_turn}
use Rattle.balance.specs.Invariant.{Sparse}
use Rattle.direct_amounts.specs.Direct.{bypass, bypass_from}
use Rattle.direct_amounts.specs.Laws.Idle.{from_idle}
use Rattle.direct_amounts.specs.Laws.DirectBalance.{bypass_sparse, bypass_room}
use Rattle.direct_amounts.proofs.direct.bypass_from.Goals as goal

pub bounds-f-a : goal.bounds-f-a
bounds-f-a c = omega (arith, c.requires.0.small c.args.a c.requires.2, c.requires.0.small c.args.b c.requires.1)

pub returns-then-f-a-eq0 : goal.returns-then-f-a-eq0
returns-then-f-a-eq0 c = sym (from_idle c.args.vs.now c.args.f.now c.args.a c.args.b (omega arith))

pub loop-c-init : goal.loop-c-init
unfolding fold
loop-c-init c = record { sparse = c.requires.0; so_far = refl }

pub bypass_by-requires : goal.bypass_by-requires
bypass_by-requires c =
    let vs = c.args.vs.now in
    let s = c.loop-c.invariant.sparse in
    let mc : Memᴰ c.from.result vs = subst⁻¹ (λ n. Memᴰ n vs) c.from.ensures (get_d_mem vs 0 c.loop-c.c-index c.loop-c-test.true) in
    (s.small c.args.a c.requires.2, s.small c.args.b c.requires.1, s.small _ mc, bypass_room vs c.loop-c.f c.args.a c.args.b _ c.requires.2 c.requires.1 mc s)

pub loop-c-preserved : goal.loop-c-preserved
loop-c-preserved c =
    let vs = c.args.vs.now in
    let v = c.loop-c in
    let mc : Memᴰ c.from.result vs = subst⁻¹ (λ n. Memᴰ n vs) c.from.ensures (get_d_mem vs 0 v.c-index c.loop-c-test.true) in
    record {
      sparse = subst⁻¹ (Sparse vs) c.bypass_by.ensures (bypass_sparse vs v.f c.args.a c.args.b _ c.requires.2 c.requires.1 mc v.invariant.sparse);
      so_far = fold_turn (λ g k. bypass g c.args.a c.args.b k) c.args.f.now vs v.c-index v.invariant.so_far c.loop-c-test.true c.from.ensures c.bypass_by.ensures;
    }

pub returns : goal.returns
unfolding bypass_from
returns c = c.loop-c.invariant.so_far ∙ ap (fold _ _) (take_all _ _ c.loop-c-test.false)
