-- Sweeping may stop early. A set that a sweep leaves as it is, every later sweep leaves so too: it is what k sweeps reach. The set of all k
-- components is such a set, since a sweep only adds, and only components below k.
use Rattle.std.specs.Prelude.{◌≡◌, ◌≢◌, true, false}
use Rattle.std.proofs.Math.Path.{sym, ap}
use Rattle.std.proofs.Common.{◌∙◌, zero-add, suc-add, arith, pow_pos}
use Prim.Native.Nat.{ℕ, zero, suc, ◌+◌, ◌-◌, ◌^◌, ◌≤◌, ◌<◌}
use borrow.Author.Tests.{eq-eqb, ne_eqb}
use Rattle.arborescence.specs.BitSet.{has_all, all_has}
use Rattle.arborescence.specs.Reach.{sweep, sweeps, reaches_all}
use Rattle.arborescence.specs.Laws.Reach.{sweep_keeps, sweep_lt}

module _ (g : ℕ → ℕ) where
  -- a set that a sweep leaves as it is, d sweeps leave so
  settled : (n s j d : ℕ) → sweep g n s ≡ s → sweeps g n j ≡ s → sweeps g n (d + j) ≡ s
  unfolding sweeps
  settled n s j zero h e = ap (sweeps g n) (zero-add j) ∙ e
  settled n s j (suc d) h e = ap (sweeps g n) (suc-add d j) ∙ ap (sweep g n) (settled n s j d h e) ∙ h

  -- a sweep leaves the set of all components as it is
  full_stays : (k : ℕ) → 1 ≤ k → sweep g (k - 1) (2 ^ k - 1) ≡ 2 ^ k - 1
  full_stays k l =
      let p = pow_pos k in
      all_has k _ (sweep_lt g k (k - 1) _ (omega arith) (omega arith)) (λ x h. sweep_keeps g (k - 1) _ x (has_all k x h))

  -- what a sweep leaves as it is, once reached, is what k sweeps reach
  last : (k s j : ℕ) → j ≤ k → sweep g (k - 1) s ≡ s → sweeps g (k - 1) j ≡ s → sweeps g (k - 1) k ≡ s
  last k s j l h e = let d : k - j + j ≡ k = omega arith in rw d at (settled (k - 1) s j (k - j) h e)

  -- one turn of the code: j sweeps reach r, and one more s
  module _ (k j r s : ℕ) (l : 1 ≤ k) (within : j < k) (now : r ≡ sweeps g (k - 1) j) (next : s ≡ sweep g (k - 1) r) where
    pub stop_full : s ≡ 2 ^ k - 1 → reaches_all g k ≡ true
    unfolding reaches_all sweeps
    stop_full e = eq-eqb _ _ (last k (2 ^ k - 1) (suc j) (omega arith) (full_stays k l) (ap (sweep g (k - 1)) (sym now) ∙ sym next ∙ e))

    pub stop_still : s ≡ r → s ≢ 2 ^ k - 1 → reaches_all g k ≡ false
    unfolding reaches_all
    stop_still e n = ne_eqb _ _ (λ f. n (e ∙ sym (last k r j (omega arith) (sym next ∙ e) (sym now)) ∙ f))
