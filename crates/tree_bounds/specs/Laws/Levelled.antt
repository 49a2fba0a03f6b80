-- What is put into a list vertex by vertex, potentials that are levelled or multipliers that are raised: one more each time.
use Rattle.std.specs.Prelude.{◌≡◌, List, ℕ, ◌+◌, ◌≤◌, ◌<◌, length, get_or, set}
use Rattle.std.proofs.Common.{ap, ◌∙◌, arith, length-set, get_or-set_same, get_or-set_other}
use Rattle.std.proofs.Math.Path.{subst⁻¹}
use Rattle.std.proofs.Math.Decide.{ℕ_discrete}
use Rattle.tree_bounds.specs.Reducible.{ArePut}

module _ (fact : ℕ → ℕ → Type 0) (vs : List ℕ) where
  pub put_start : (w : List ℕ) → length w ≡ 64 → ((v : ℕ) → get_or w v 0 ≡ 0) → ArePut fact vs 0 w
  put_start w l z = record { size = l; each = λ k b. absurd (omega arith); low = λ v. (let e = z v in omega arith) }

  pub put_more : (n : ℕ) (w : List ℕ) (r : ℕ) → ArePut fact vs n w → get_or vs n 0 < 64 → fact (get_or vs n 0) r → r ≤ 8257410
      → ArePut fact vs (n + 1) (set w (get_or vs n 0) r)
  put_more n w r h b e l = record {
    size = length-set w (get_or vs n 0) r ∙ h.size;
    each = λ k c. elim (ℕ_discrete (get_or vs k 0) (get_or vs n 0)) [
      | yes s ↦ subst⁻¹ (λ v. fact v (get_or (set w (get_or vs n 0) r) v 0)) s
          (subst⁻¹ (fact (get_or vs n 0)) (get_or-set_same w (get_or vs n 0) r 0 (let m = h.size in omega arith)) e)
      | no o ↦ subst⁻¹ (fact (get_or vs k 0)) (get_or-set_other w (get_or vs n 0) (get_or vs k 0) r 0 o)
          (h.each k (elim (ℕ_discrete k n) [ yes s ↦ absurd (o (ap (λ i. get_or vs i 0) s)) | no d ↦ omega arith ]))
    ];
    low = λ v. elim (ℕ_discrete v (get_or vs n 0)) [
      | yes s ↦ (let g =
          ap (λ v. get_or (set w (get_or vs n 0) r) v 0) s ∙ get_or-set_same w (get_or vs n 0) r 0 (let m = h.size in omega arith)
          in omega arith)
      | no o ↦ (let g = get_or-set_other w (get_or vs n 0) v r 0 o in let a = h.low v in omega arith)
    ];
  }
