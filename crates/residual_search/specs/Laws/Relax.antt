-- One pass over the vertices relaxes them and finds the nearest: the distance of a vertex after its turn is its last, since each turn of a
-- vertex comes to the lesser of the distance that it had at first and that by w. By induction on the turns.
use Rattle.std.specs.Prelude.{◌≡◌, ◌⊎◌, cond, ℕ, ◌+◌, ◌<◌, min, length, take, eqb}
use Rattle.std.proofs.Math.Path.{refl, subst⁻¹}
use Rattle.std.proofs.Common.{ap, ◌∙◌, get_or-set_same, get_or-set_other}
use Rattle.std.proofs.Math.Logic.{inl, inr}
use mathlib.Core.List.Memᴰ
use mathlib.Core.List.{List, [], ◌∷◌, Memᴰ}
use Rattle.std.proofs.Math.Decide.{ℕ_discrete, dec_le}
use native.Mathlib.Omega.{arith}
use Rattle.std.proofs.Math.ListN.{get_or, get_or-eq_default}
use Rattle.std.proofs.Math.Seq.{set_out}
use Rattle.postman.specs.Laws.Membership.{get_d_mem}
use Rattle.residual_search.specs.Fold.{fold}
use Rattle.residual_search.specs.Search.{beyond, relaxed, open_distance}

module _ (len : ℕ → ℕ) (w base : ℕ) where
  abbrev lowered : List ℕ × List ℕ → ℕ → ℕ
  lowered s v = min (base + len v) (get_or s.0 v 0)

  lowered_here : (s : List ℕ × List ℕ) (v : ℕ) → get_or (relaxed len w base s v).0 v 0 ≡ lowered s v
  lowered_here s v = elim (dec_le (length s.0) v) [
    | yes l ↦
        let a = get_or-eq_default s.0 0 {n = v} l in
        let b = ap (λ (q : List ℕ). get_or q v 0) (set_out s.0 v (lowered s v) l) in
        omega arith
    | no l ↦ get_or-set_same s.0 v (lowered s v) 0 (omega arith)
  ]

  -- a vertex keeps its distance, or has the lesser
  abbrev Either : ℕ → List ℕ × List ℕ → List ℕ × List ℕ → Type 0
  Either i s r = (get_or r.0 i 0 ≡ get_or s.0 i 0) ⊎ (get_or r.0 i 0 ≡ lowered s i)

  keeps_or_lowers : (s : List ℕ × List ℕ) (v i : ℕ) → Either i s (relaxed len w base s v)
  keeps_or_lowers s v i = elim (ℕ_discrete i v) [
    | yes e ↦ inr (subst⁻¹ (λ k. get_or (relaxed len w base s v).0 k 0 ≡ lowered s k) e (lowered_here s v))
    | no n ↦ inl (get_or-set_other s.0 v i (lowered s v) 0 n)
  ]

  keep_or_lower : (us : List ℕ) (s : List ℕ × List ℕ) (i : ℕ) → Either i s (fold (relaxed len w base) s us)
  unfolding fold
  keep_or_lower [] s i = inl refl
  keep_or_lower (u ∷ us) s i = elim (keep_or_lower us (relaxed len w base s u) i) [
    | inl p ↦ elim (keeps_or_lowers s u i) [ inl q ↦ inl (p ∙ q) | inr q ↦ inr (p ∙ q) ]
    | inr p ↦ elim (keeps_or_lowers s u i) [ inl q ↦ inr (omega arith) | inr q ↦ inr (omega arith) ]
  ]

  -- and has the lesser after its turn
  lowered_once : (us : List ℕ) (s : List ℕ × List ℕ) (i : ℕ) → Memᴰ i us → get_or (fold (relaxed len w base) s us).0 i 0 ≡ lowered s i
  unfolding fold
  lowered_once [] s i m = absurd (Memᴰ.not-nil m)
  lowered_once (u ∷ us) s i m = elim (Memᴰ.cases_cons m) [
    | inl e ↦
        let here : get_or (relaxed len w base s u).0 i 0 ≡ lowered s i =
        subst⁻¹ (λ k. get_or (relaxed len w base s u).0 k 0 ≡ lowered s k) e (lowered_here s u) in
        elim (keep_or_lower us (relaxed len w base s u) i) [ inl p ↦ p ∙ here | inr p ↦ omega arith ]
    | inr k ↦
        let p = lowered_once us (relaxed len w base s u) i k in
        elim (keeps_or_lowers s u i) [ inl q ↦ omega arith | inr q ↦ omega arith ]
  ]

  module _ (vs : List ℕ) (s : List ℕ × List ℕ) where
    abbrev final : ℕ → ℕ
    final v = get_or (fold (relaxed len w base) s vs).0 v 0

    -- the distance after a turn is the last
    pub relax_last : (a : ℕ) {x next : List ℕ} {v c y : ℕ} → (x, next) ≡ fold (relaxed len w base) s (take a vs) → a < length vs
        → v ≡ get_or vs a 0 → c ≡ base + len v
        → y ≡ min c (get_or x v 0) → y ≡ final v
    relax_last a {x} {next} {v} {c} {y} inv l ev ec ey =
        let f = lowered_once vs s v (subst⁻¹ (λ k. Memᴰ k vs) ev (get_d_mem vs 0 a l)) in
        let i = ap (λ (q : List ℕ × List ℕ). get_or q.0 v 0) inv in
        elim (keep_or_lower (take a vs) s v) [ inl p ↦ omega arith | inr p ↦ omega arith ]

    -- what the nearest begins with
    pub goal_low : (rank : List ℕ) {goal end c y low : ℕ} → Memᴰ goal vs → end ≡ goal → c ≡ base + len end
        → y ≡ min c (get_or s.0 end 0)
        → low ≡ cond (eqb (get_or rank end 0) 0) y beyond → low ≡ open_distance (fold (relaxed len w base) s vs).0 rank goal
    goal_low rank {goal} {end} {c} {y} m ee ec ey el =
        let f = lowered_once vs s end (subst⁻¹ (λ k. Memᴰ k vs) ee m) in
        let e : y ≡ final end = omega arith in
        el ∙ ap (λ y. cond (eqb (get_or rank end 0) 0) y beyond) e ∙ ap (open_distance (fold (relaxed len w base) s vs).0 rank) ee
