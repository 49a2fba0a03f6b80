-- Capped multipliers are small. Those less that of the first vertex are 0 there, and elsewhere what the others are above it. Small ones,
-- each raised by `beyond`, are naturals: heights, which the laws of the balancing speak of.
use Rattle.std.specs.Prelude.{◌≡◌, cond, ℕ, ◌<◌, length, replicate, ℤ, pos, negsuc, neg_ℤ, nat_abs, ◌+ℤ◌, ◌-ℤ◌}
use Rattle.std.proofs.Common.{sym, ◌∙◌, inl, inr, arith}
use Rattle.std.proofs.Math.Path.{subst, subst⁻¹}
use mathlib.Core.List.{List, Memᴰ}
use Rattle.std.proofs.Math.ListN.{get_or, length-replicate}
use Rattle.std.specs.Int.Signed.{lt_z, shr_z, lt_z_no}
use Rattle.integers.specs.Linear.{z, zl, Within, pos_abs}
use Rattle.postman.specs.Laws.Tests.{cond_ind}
use Rattle.postman.specs.Laws.Membership.{get_d_mem, mem_get_d}
use Rattle.postman_laws.specs.Laws.Occurrences.{mem?}
use Rattle.residual_search.specs.Search.{beyond}
use Rattle.residual_search.specs.Laws.Fill.{zero_at}
use Rattle.multiplier_steps.specs.Steps.{AreSmall, capped, capped_all, rooted}
use Rattle.multiplier_steps.specs.Laws.Turns.{stored_here, stored_other}

pub capped_small : (a : ℤ) → Within beyond (capped a)
capped_small a =
    cond_ind (lt_z a (neg_ℤ (pos beyond))) (neg_ℤ (pos beyond)) (cond (lt_z (pos beyond) a) (pos beyond) a) (Within beyond)
    (λ t. record { low = omega (arith, z); high = simp zl (omega arith) })
    (λ t. cond_ind (lt_z (pos beyond) a) (pos beyond) a (Within beyond)
    (λ u. record { low = simp zl (omega arith); high = omega (arith, z) })
    (λ u. record { low = lt_z_no {a = a} {b = neg_ℤ (pos beyond)} t; high = lt_z_no {a = pos beyond} {b = a} u }))

-- half of a number, rounded down, is no further from 0
pub half_small : (m : ℕ) (a : ℤ) → Within m a → Within m (shr_z a 2)
half_small m (pos n) h = let b = h.high in
    record { low = simp zl (omega (arith, simp zl at b)); high = simp zl (omega (arith, simp zl at b)) }
half_small m (negsuc n) h = let b = h.low in
    record { low = simp zl (omega (arith, simp zl at b)); high = simp zl (omega (arith, simp zl at b)) }

pub zero_small : Within beyond (pos 0)
zero_small = record { low = simp zl (omega arith); high = simp zl (omega arith) }

module _ (vs : List ℕ) (small : (i : ℕ) → Memᴰ i vs → i < 64) where
  pub capped_here : (x : List ℤ) (i : ℕ) → Memᴰ i vs → get_or (capped_all x vs) i (pos 0) ≡ capped (get_or x i (pos 0))
  unfolding capped_all
  capped_here x i m =
      let a = mem_get_d 0 m in
      let b = small (get_or vs a.0 0) (get_d_mem vs 0 a.0 a.1) in
      let l = length-replicate 64 (pos 0) in
      subst (λ v. get_or (capped_all x vs) v (pos 0) ≡ capped (get_or x v (pos 0))) a.2
      (stored_here (λ v. capped (get_or x v (pos 0))) (pos 0) vs (replicate 64 (pos 0)) (length vs) a.0 a.1 (omega arith))

  capped_other : (x : List ℤ) (i : ℕ) → (Memᴰ i vs → ⊥) → get_or (capped_all x vs) i (pos 0) ≡ pos 0
  unfolding capped_all
  capped_other x i n =
      stored_other (λ v. capped (get_or x v (pos 0))) (pos 0) vs (replicate 64 (pos 0)) (length vs) i
      (λ a l e. n (subst (λ v. Memᴰ v vs) (sym e) (get_d_mem vs 0 a l))) ∙ zero_at 64 i (pos 0)

  -- CAPPED MULTIPLIERS ARE SMALL
  pub all_small : (x : List ℤ) → AreSmall beyond (capped_all x vs)
  all_small x v l = elim (mem? v vs) [
    | inl m ↦ subst⁻¹ (Within beyond) (capped_here x v m) (capped_small (get_or x v (pos 0)))
    | inr n ↦ subst⁻¹ (Within beyond) (capped_other x v n) zero_small
  ]

  module _ (x : List ℤ) where
    abbrev U : ℕ → ℤ
    U i = get_or (rooted x vs) i (pos 0)

    abbrev less : ℕ → ℤ
    less v = get_or x v (pos 0) -ℤ get_or x (get_or vs 0 0) (pos 0)

    rooted_here : (i : ℕ) → Memᴰ i vs → U i ≡ less i
    unfolding rooted
    rooted_here i m =
        let a = mem_get_d 0 m in
        let b = small (get_or vs a.0 0) (get_d_mem vs 0 a.0 a.1) in
        let l = length-replicate 64 (pos 0) in
        subst (λ v. U v ≡ less v) a.2 (stored_here less (pos 0) vs (replicate 64 (pos 0)) (length vs) a.0 a.1 (omega arith))

    pub rooted_other : (i : ℕ) → (Memᴰ i vs → ⊥) → U i ≡ pos 0
    unfolding rooted
    rooted_other i n =
        stored_other less (pos 0) vs (replicate 64 (pos 0)) (length vs) i
        (λ a l e. n (subst (λ v. Memᴰ v vs) (sym e) (get_d_mem vs 0 a l))) ∙ zero_at 64 i (pos 0)

    pub rooted_first : 0 < length vs → U (get_or vs 0 0) ≡ pos 0
    rooted_first l = let e = rooted_here (get_or vs 0 0) (get_d_mem vs 0 0 l) in simp zl (omega (arith, z, simp zl at e))

    -- ---- as heights
    abbrev pub raised : ℕ → ℕ
    raised v = nat_abs (get_or x v (pos 0) +ℤ pos beyond)

    module _ (h : AreSmall beyond x) where
      pub raised_is : (i : ℕ) → Memᴰ i vs → pos (raised i) ≡ get_or x i (pos 0) +ℤ pos beyond
      raised_is i m = let w = h i (small i m) in pos_abs (let a = w.low in simp zl (omega (arith, z, simp zl at a)))

      pub rooted_raised : 0 < length vs → (i : ℕ) → Memᴰ i vs → U i +ℤ pos (raised (get_or vs 0 0)) ≡ pos (raised i)
      rooted_raised l i m =
          let a = rooted_here i m in
          let b = raised_is i m in
          let c = raised_is (get_or vs 0 0) (get_d_mem vs 0 0 l) in
          simp zl (omega (arith, z, simp zl at a, simp zl at b, simp zl at c))
