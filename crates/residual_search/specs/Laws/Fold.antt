-- A loop over a list, turn by turn, and what one store changes.
use Rattle.std.specs.Prelude.{◌≡◌, ℕ, ◌+◌, ◌<◌, length, get_or, take}
use Rattle.std.proofs.Math.Path.{refl, ap, subst⁻¹}
use Rattle.std.proofs.Common.{sym, ◌∙◌, add-one, take-suc}
use Rattle.std.proofs.Math.Logic.{inl, inr}
use mathlib.Core.List.Memᴰ
use mathlib.Core.List.{List, [], ◌∷◌, ◌++◌, Memᴰ}
use Rattle.residual_search.specs.Fold.{fold}

module _ {S : Type 0} (g : S → ℕ → S) where
  fold_append : (s : S) (xs ys : List ℕ) → fold g s (xs ++ ys) ≡ fold g (fold g s xs) ys
  unfolding fold
  fold_append s [] ys = refl
  fold_append s (x ∷ xs) ys = fold_append (g s x) xs ys

  -- one turn more
  pub fold_more : (s : S) (xs : List ℕ) (i : ℕ) → i < length xs → fold g s (take (i + 1) xs) ≡ g (fold g s (take i xs)) (get_or xs i 0)
  unfolding fold
  fold_more s xs i h =
      ap (λ n. fold g s (take n xs)) (add-one i) ∙ ap (fold g s) (take-suc xs i 0 h) ∙ fold_append s (take i xs) (get_or xs i 0 ∷ [])

  pub fold_turn : (s : S) (xs : List ℕ) (i : ℕ) {r r' : S} {v : ℕ} → r ≡ fold g s (take i xs) → i < length xs → v ≡ get_or xs i 0
      → r' ≡ g r v → r' ≡ fold g s (take (i + 1) xs)
  fold_turn s xs i {r} {r'} {v} inv l ev er = er ∙ ap (λ (q : S). g q v) inv ∙ ap (g (fold g s (take i xs))) ev ∙ sym (fold_more s xs i l)

  -- what each turn keeps
  pub fold_keeps : (Q : S → Type 0) → ((s : S) (v : ℕ) → Q s → Q (g s v)) → (xs : List ℕ) (s : S) → Q s → Q (fold g s xs)
  unfolding fold
  fold_keeps Q h [] s q = q
  fold_keeps Q h (x ∷ xs) s q = fold_keeps Q h xs (g s x) (h s x q)

-- what each turn keeps, and what each turn brings about and the others keep
module _ {S : Type 0} (g : S → ℕ → S) (vs : List ℕ) (Q : S → Type 0) (keep : (s : S) (v : ℕ) → Memᴰ v vs → Q s → Q (g s v)) where
  abbrev In : List ℕ → Type 0
  In us = (v : ℕ) → Memᴰ v us → Memᴰ v vs

  turns_keep : (us : List ℕ) → In us → (s : S) → Q s → Q (fold g s us)
  unfolding fold
  turns_keep [] i s q = q
  turns_keep (u ∷ us) i s q = turns_keep us (λ v m. i v (Memᴰ.tail m)) (g s u) (keep s u (i u (Memᴰ.head refl)) q)

  pub fold_all : (s : S) → Q s → Q (fold g s vs)
  fold_all s q = turns_keep vs (λ v m. m) s q

  module _ (R : ℕ → S → Type 0) (bring : (s : S) (v : ℕ) → Memᴰ v vs → Q s → R v (g s v))
      (hold : (s : S) (v w : ℕ) → Memᴰ v vs → Memᴰ w vs → Q s → R w s → R w (g s v)) where
    turns_hold : (us : List ℕ) → In us → (w : ℕ) → Memᴰ w vs → (s : S) → Q s → R w s → R w (fold g s us)
    unfolding fold
    turns_hold [] i w mw s q r = r
    turns_hold (u ∷ us) i w mw s q r =
        let mu = i u (Memᴰ.head refl) in
        turns_hold us (λ v m. i v (Memᴰ.tail m)) w mw (g s u) (keep s u mu q) (hold s u w mu mw q r)

    turns_bring : (us : List ℕ) → In us → (s : S) → Q s → (w : ℕ) → Memᴰ w us → R w (fold g s us)
    unfolding fold
    turns_bring [] i s q w m = absurd (Memᴰ.not-nil m)
    turns_bring (u ∷ us) i s q w m =
        let mu = i u (Memᴰ.head refl) in
        let rest : In us = λ v n. i v (Memᴰ.tail n) in
        elim (Memᴰ.cases_cons m) [
          | inl e ↦ subst⁻¹ (λ n. R n (fold g (g s u) us)) e (turns_hold us rest u mu (g s u) (keep s u mu q) (bring s u mu q))
          | inr n ↦ turns_bring us rest (g s u) (keep s u mu q) w n
        ]

    pub fold_each : (s : S) → Q s → (w : ℕ) → Memᴰ w vs → R w (fold g s vs)
    fold_each s q = turns_bring vs (λ v m. m) s q

-- turns that change nothing
pub fold_idle : {S : Type 0} (g : S → ℕ → S) (s : S) (vs : List ℕ) → ((v : ℕ) → g s v ≡ s) → fold g s vs ≡ s
unfolding fold
fold_idle g s [] h = refl
fold_idle g s (v ∷ vs) h = ap (λ t. fold g t vs) (h v) ∙ fold_idle g s vs h
