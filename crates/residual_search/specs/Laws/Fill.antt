-- Lists that hold one value everywhere, and a loop that stores at each vertex of a list what a function says. By induction on the list.
use Rattle.std.specs.Prelude.{◌≡◌, ℕ, zero, suc, ◌<◌, length, set, replicate}
use Rattle.std.proofs.Math.Path.{refl, ap}
use Rattle.std.proofs.Common.{sym, ◌∙◌, arith}
use Rattle.std.proofs.Math.Logic.{inl, inr}
use mathlib.Core.List.Memᴰ
use mathlib.Core.List.{List, [], ◌∷◌, Memᴰ}
use Rattle.std.proofs.Math.ListN.{get_or, length-set}
use Rattle.std.proofs.Math.Seq.{get_or-set_same, get_or-set_other}
use Rattle.postman_laws.specs.Laws.Occurrences.{mem?}
use Rattle.residual_search.specs.Fold.{fold}

pub zero_at : {A : Type 0} (n k : ℕ) (z : A) → get_or (replicate n z) k z ≡ z
zero_at zero k z = refl
zero_at (suc n) zero z = refl
zero_at (suc n) (suc k) z = zero_at n k z

module _ {A : Type 0} (g : ℕ → A) (z : A) where
  abbrev store : List A → ℕ → List A
  store s v = set s v (g v)

  pub fill_length : (us : List ℕ) (s : List A) → length (fold store s us) ≡ length s
  unfolding fold
  fill_length [] s = refl
  fill_length (u ∷ us) s = fill_length us (store s u) ∙ length-set s u (g u)

  pub fill_other : (us : List ℕ) (s : List A) (v : ℕ) → (Memᴰ v us → ⊥) → get_or (fold store s us) v z ≡ get_or s v z
  unfolding fold
  fill_other [] s v n = refl
  fill_other (u ∷ us) s v n =
      fill_other us (store s u) v (λ m. n (Memᴰ.tail m)) ∙ get_or-set_other s u v (g u) z (λ e. n (Memᴰ.head e))

  pub fill_here : (us : List ℕ) (s : List A) (v : ℕ) → Memᴰ v us → v < length s → get_or (fold store s us) v z ≡ g v
  unfolding fold
  fill_here [] s v m h = absurd (Memᴰ.not-nil m)
  fill_here (u ∷ us) s v m h = elim (mem? v us) [
    | inl n ↦ fill_here us (store s u) v n (let l = length-set s u (g u) in omega arith)
    | inr n ↦ elim (Memᴰ.cases_cons m) [
      | inl e ↦ fill_other us (store s u) v n ∙ ap (λ k. get_or (store s u) k z) e ∙ get_or-set_same s u (g u) z (let q = e in omega arith)
          ∙ ap g (sym e)
      | inr k ↦ absurd (n k)
    ]
  ]
