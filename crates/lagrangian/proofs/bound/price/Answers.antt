-- After i turns the sum is that of the first i vertices.
use mathlib.Core.Path.{◌≡◌, sym, ap, ◌∙◌, subst⁻¹}
use native.Mathlib.Omega.{arith}
use lib.IntN.{ℤ, ◌+ℤ◌}
use Rattle.integers.specs.Linear.{back64, Within}
use Rattle.lagrangian.specs.Price.{price_of}
use Rattle.lagrangian.specs.Laws.Price.{term, price_none, price_more, price_small}
use Rattle.lagrangian.proofs.bound.price.Goals as goal

pub loop-i-init : goal.loop-i-init
loop-i-init c = sym (price_none _ _)

pub plus-sum-requires : goal.plus-sum-requires
plus-sum-requires c =
    let l = c.loop-i-test.true in (
      subst⁻¹ (Within 67644702720) c.loop-i.invariant (price_small _ _ c.requires.0 c.requires.1 c.loop-i.i (omega arith)),
      simp (back64, c.level-1.given) (c.requires.0 c.loop-i.i l),
      simp (back64, c.plus-arg-1.given) (c.requires.1 c.loop-i.i l),
    )

pub loop-i-preserved : goal.loop-i-preserved
loop-i-preserved c =
    let u = c.args.u.now in
    let d = c.args.imbalance.now in
    let e = simp (back64, c.level-1.given, c.plus-arg-1.given) at c.plus-sum.ensures in
    back64 _ c.plus-sum.type_inv ∙ e ∙ ap (λ (x : ℤ). x +ℤ term u d c.loop-i.i) c.loop-i.invariant ∙ sym (price_more u d c.loop-i.i)

pub returns : goal.returns
returns c =
    let e : c.loop-i.i ≡ 64 = omega arith in
    let r = c.loop-i.invariant ∙ ap (price_of c.args.u.now c.args.imbalance.now) e in
    (r, subst⁻¹ (Within 67644702720) r (price_small _ _ c.requires.0 c.requires.1 64 (omega arith)))
