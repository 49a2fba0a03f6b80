-- After the turns for pairs below l, m holds their least offers.
use Rattle.std.proofs.Common.{refl, ap, ap₂, ◌∙◌, arith, ◌≡◌, ◌+◌, ◌*◌, ◌/◌, ◌%◌, ◌&&◌, ◌<◌, ◌⊎◌, inl, inr, cond, ℕ, ℤ, Bool, true, false, get_or, set, length, length-set, subst, to_z, of_z, w64}
use Rattle.std.proofs.Math.Path.{subst⁻¹}
use Rattle.std.specs.Prelude.{pos, negsuc, ◌≤ℤ◌, int_lt}
use Rattle.std.specs.Int.{int_min}
use Rattle.std.specs.Int.Signed.{mag}
use Rattle.integers.specs.Linear.{z, back64}
use Rattle.cheapest_tree.specs.CostMatrix.{highest}
use Rattle.pair_costs.specs.PairCosts.{AreLeastOffers, IsLesser, cost_of}
use Rattle.pair_costs.specs.Laws.PairCosts.{offers_none, offers_taken, offers_passed}
use Rattle.pair_costs.proofs.pairs.pair_costs.Goals.{then-required-i+then-required-j, else-required-i, else-required-i-via-then-required-i+else-required-j, else-required-i-via-else-required-i}
use Rattle.pair_costs.proofs.pairs.pair_costs.Goals as goal

-- a cost of the matrix fits
cost_fits : (a : ℤ) → pos 0 ≤ℤ a → a ≤ℤ pos highest → mag a < 9223372036854775808
cost_fits (pos n) l h = omega (arith, z)
cost_fits (negsuc n) l h = absurd l.le

one_of : (b : Bool) (x y : ℤ) {r : ℤ} → r ≡ cond b y x → (r ≡ x) ⊎ (r ≡ y)
one_of true x y e = inr e
one_of false x y e = inl e

pub loop-l-init : goal.loop-l-init
loop-l-init c = record { sized = refl; offers = offers_none _ _ _ _ }

pub loop-l-preserved : goal.loop-l-preserved
loop-l-preserved c =
    let v = c.loop-l in
    let d = c.args.d.now in
    let u = c.args.u.now in
    let k = c.args.component.now in
    let r = c.args.required.now in
    let more = c.loop-l-test.true in
    let i = v.l / 64 in
    let j = v.l % 64 in
    elim c.if-required-i.branch [
      | then-required-i+then-required-j w ↦
          let x = w.from.result * 8 + w.from-then-required-j.result in
          let e : x ≡ get_or k i 0 * 8 + get_or k j 0 = ap₂ (λ (p q : ℕ). p * 8 + q) w.from.ensures w.from-then-required-j.ensures in
          let l : x < 64 = omega (arith, c.requires.in_range i (omega arith) w.if-required-i.true, c.requires.in_range j (omega arith) w.if-required-j.true) in
          let a = get_or v.m x (pos 0) in
          let f : to_z w64 (of_z w64 a) ≡ a = back64 a (cost_fits a (v.invariant.offers.low x l) (v.invariant.offers.high x l)) in
          let g : to_z w64 (of_z w64 w.cost.result) ≡ cost_of d u i j = back64 w.cost.result w.cost.type_inv ∙ w.cost.ensures in
          let least : IsLesser a (cost_of d u i j) w.min.result = record {
            first = subst (λ (n : ℤ). w.min.result ≤ℤ n) f w.min.ensures.self_bound;
            second = subst (λ (n : ℤ). w.min.result ≤ℤ n) g w.min.ensures.other_bound;
            one = one_of (int_lt (cost_of d u i j) a) a (cost_of d u i j) (w.min.ensures.value ∙ ap₂ int_min f g);
          } in
          let set_to = w.m-is ∙ ap (set v.m x) (back64 w.min.result w.min.type_inv) in
          record {
            sized = ap length set_to ∙ length-set v.m x w.min.result ∙ v.invariant.sized;
            offers = subst⁻¹ (AreLeastOffers d u k r (v.l + 1)) set_to
                (offers_taken d u k r c.requires v.l more v.m v.invariant.offers (ap₂ ◌&&◌ w.if-required-i.true w.if-required-j.true) v.invariant.sized x l e w.min.result least);
          }
      | else-required-i w ↦ record {
        sized = ap length w.m-is ∙ v.invariant.sized;
        offers = subst⁻¹ (AreLeastOffers d u k r (v.l + 1)) w.m-is (offers_passed d u k r c.requires v.l more v.m v.invariant.offers (elim w.else-required-i.branch [
          | else-required-i-via-then-required-i+else-required-j p ↦ ap₂ ◌&&◌ p.if-required-i.true p.if-required-j.false
          | else-required-i-via-else-required-i p ↦ ap (λ b. b && get_or r j false) p.if-required-i.false
        ]));
      }
    ]
