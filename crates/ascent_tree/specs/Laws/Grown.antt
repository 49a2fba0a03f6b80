-- The bodies of the loops that find the cheapest pairs and a cheapest tree.
use Rattle.std.specs.Prelude.{◌≡◌, Bool, true, false, ◌&&◌, List, ℕ, ◌+◌, ◌*◌, ◌-◌, ◌/◌, ◌%◌, ◌^◌, get_or, set, ℤ, pos}
use Rattle.std.proofs.Common.{sym, ap₂, ◌∙◌, ne_eqb}
use Rattle.std.proofs.lemmas.List.{set-get_or}
use Rattle.std.specs.Int.Signed.{lt_z}
use Rattle.ascent_tree.specs.Tree.{holds, joined, cheaper, cost_by, entry, enter, shifted, walk_back}

-- a component that is in the set is not entered
pub enter_in : (m : List ℤ) (s : ℕ) (cost : List ℤ) (from : List ℕ) (q : ℕ) → holds s q ≡ true → (cost, from) ≡ enter m s (cost, from) q
unfolding enter
enter_in m s cost from q e =
    ap₂ (λ (p : List ℤ) (q : List ℕ). (p, q)) (sym (set-get_or cost (joined s q) (pos 0))) (sym (set-get_or from (joined s q) 0)) ∙ rw e

-- one that is not in it is entered where that costs less
module _ (m : List ℤ) (s : ℕ) (cost : List ℤ) (from : List ℕ) (q : ℕ) {p j : ℕ} {c : ℤ} (out : holds s q ≡ false) (ep : p ≡ entry m s q)
    (ej : j ≡ joined s q) (ec : c ≡ cost_by m s cost p q) where
  pub enter_less : lt_z c (get_or cost j (pos 0)) ≡ true → (set cost j c, set from j (p * 8 + q)) ≡ enter m s (cost, from) q
  unfolding enter
  enter_less h = let k = rw (ec, ej, ep) at h in rw (ec, ej, ep, out, k)

  pub enter_not : lt_z c (get_or cost j (pos 0)) ≡ false → (cost, from) ≡ enter m s (cost, from) q
  unfolding enter
  enter_not h =
      let k = rw (ec, ej, ep) at h in
      ap₂ (λ (p : List ℤ) (q : List ℕ). (p, q)) (sym (set-get_or cost (joined s q) (pos 0))) (sym (set-get_or from (joined s q) 0))
      ∙ rw (out, k)

-- which component an offer is taken from
module _ (m : List ℤ) (s q p r : ℕ) where
  abbrev undercut : Bool
  undercut = holds s p && lt_z (get_or m (p * 8 + q) (pos 0)) (get_or m (r * 8 + q) (pos 0))

  pub cheaper_new : undercut ≡ true → {n : ℕ} → n ≡ p → n ≡ cheaper m s q r p
  cheaper_new h e = rw h e

  pub cheaper_old : undercut ≡ false → {n : ℕ} → n ≡ r → n ≡ cheaper m s q r p
  cheaper_old h e = rw h e

pub walk_end : (from at : List ℕ) (s : ℕ) (x : List ℤ) (t : ℕ) → t ≡ 0 → (x, 0) ≡ walk_back from at s (x, t)
unfolding walk_back
walk_end from at s x t e = rw e

pub walk_is : (from at : List ℕ) (s : ℕ) (x : List ℤ) (t : ℕ) {e g r : ℕ} {y : List ℤ} → (t ≡ 0 → ⊥) → e ≡ get_or from t 0
    → y ≡ shifted x (get_or at (e % 64) 0) s → g ≡ 2 ^ (e % 8) → r ≡ t - g / 2
    → (y, r) ≡ walk_back from at s (x, t)
unfolding walk_back
walk_is from at s x t n ee ey eg er = rw (ne_eqb t 0 n, er, eg, ey, ee)
