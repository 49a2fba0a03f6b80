-- s is what the components from q on pay.
use Rattle.std.proofs.Common.{ap, ◌∙◌, ◌≡◌, arith, ◌-◌, ℤ, ◌+ℤ◌, to_z, of_z, w64}
use Rattle.std.proofs.Math.Path.{subst⁻¹}
use mir.Facts.{to_z-of_z}
use lib.IntN.{+ℤ_comm}
use Rattle.integers.specs.Linear.{z, zz, back64}
use Rattle.cheapest_tree.specs.Laws.CostMatrix.{Paid, paid_none, paid_more, payments, payments_all}
use Rattle.cheapest_tree.proofs.cheapest.paid.Goals as goal

pub loop-q-init : goal.loop-q-init
loop-q-init c = record { from_one = omega arith; to_eight = omega arith; pays = paid_none _ _ _ }

pub overflow_add-s : goal.overflow_add-s
overflow_add-s c =
    let v = c.loop-q in
    let m = paid_more _ _ _ c.requires.0 c.requires.1 v.q c.loop-q-test.true (omega arith) _ _ c.pay-s.ensures v.invariant.pays in
    let h = m.high in
    simp (back64, c.pay-s.type_inv) (simp zz (omega (arith, z, simp zz at m.low, simp zz at h)))

pub loop-q-preserved : goal.loop-q-preserved
loop-q-preserved c =
    let v = c.loop-q in
    let f : to_z w64 (of_z w64 c.pay-s.result) ≡ c.pay-s.result = back64 _ c.pay-s.type_inv in
    let g = to_z-of_z (overflow_add-s c) ∙ ap (λ (x : ℤ). to_z w64 v.s-bits +ℤ x) f ∙ +ℤ_comm (to_z w64 v.s-bits) c.pay-s.result in
    record {
      from_one = omega arith;
      to_eight = omega arith;
      pays = subst⁻¹ (Paid c.args.w.now c.args.left c.args.e (v.q - 1)) g
          (paid_more _ _ _ c.requires.0 c.requires.1 v.q c.loop-q-test.true (omega arith) _ _ c.pay-s.ensures v.invariant.pays);
    }

pub returns : goal.returns
returns c = let v = c.loop-q in let e : v.q ≡ 1 = omega arith in v.invariant.pays.sum ∙ ap (payments c.args.w.now c.args.left c.args.e) e ∙ payments_all _ _ _
