-- Sums and minima of lists of integers. By induction on the list.
use Rattle.std.specs.Prelude.{◌≡◌, Bool, not, ℕ, ◌<◌, length, T, eqb, ℤ, ◌+ℤ◌, ◌-ℤ◌, ◌*ℤ◌, ◌≤ℤ◌}
use Rattle.std.proofs.Math.Path.{refl, ap, fun_ext}
use Rattle.std.proofs.Common.{sym, ap₂, ◌∙◌, subst, arith, eqb→eq}
use mathlib.Core.List.{List, [], ◌∷◌, ◌++◌, map, Memᴰ}
use Rattle.std.proofs.Math.IntN.{pos, *ℤ-zero, *ℤ-one, one}
use Rattle.std.specs.Int.Signed.{le_z, le_z_yes, ≤ℤ_refl}
use Rattle.integers.specs.Linear.{z, zl, le_no, *ℤ-+ℤ}
use Rattle.postman.specs.Lists.{sum_of, sum_ofℤ, minℤ, maxℤ, minimumℤ, delta, occurrences}
use Rattle.postman.specs.Laws.Tests.{cond_ind}
use Rattle.postman.specs.Steps.{Pick, here, there}
use Rattle.postman_laws.specs.Laws.Occurrences.{delta_sym, occurrences_of_mem}
use Rattle.postman_laws.specs.Laws.Amounts.{Within}

-- ---- the order, minima and maxima

pub ≤ℤ-trans : {a b c : ℤ} → a ≤ℤ b → b ≤ℤ c → a ≤ℤ c
≤ℤ-trans h g = omega (arith, z)

pub ≤ℤ-antisym : {a b : ℤ} → a ≤ℤ b → b ≤ℤ a → a ≡ b
≤ℤ-antisym h g = omega (arith, z)

not_le : (a b : ℤ) → T (not (le_z a b)) → b ≤ℤ a
not_le a b t = let h = le_no a b (at (le_z a b) t) in omega (arith, z)
  where
    at : (c : Bool) → T (not c) → c ≡ Bool.false
    at Bool.true t = absurd t
    at Bool.false t = refl

pub min_left : (a b : ℤ) → minℤ a b ≤ℤ a
unfolding minℤ
min_left a b = cond_ind (le_z a b) a b (λ x. x ≤ℤ a) (λ t. ≤ℤ_refl a) (λ t. not_le a b t)

pub min_right : (a b : ℤ) → minℤ a b ≤ℤ b
unfolding minℤ
min_right a b = cond_ind (le_z a b) a b (λ x. x ≤ℤ b) (λ t. le_z_yes t) (λ t. ≤ℤ_refl b)

pub max_right : (a b : ℤ) → b ≤ℤ maxℤ a b
unfolding maxℤ
max_right a b = cond_ind (le_z a b) b a (λ x. b ≤ℤ x) (λ t. ≤ℤ_refl b) (λ t. not_le a b t)

pub max_least : (a b c : ℤ) → a ≤ℤ c → b ≤ℤ c → maxℤ a b ≤ℤ c
unfolding maxℤ
max_least a b c h g = cond_ind (le_z a b) b a (λ x. x ≤ℤ c) (λ t. g) (λ t. h)

pub minimumℤ_le : {x : ℤ} {xs : List ℤ} → Memᴰ x xs → minimumℤ xs ≤ℤ x
unfolding minimumℤ
minimumℤ_le {x} (Memᴰ.head {x = y} {xs = []} e) = subst (λ w. y ≤ℤ w) (sym e) (≤ℤ_refl y)
minimumℤ_le {x} (Memᴰ.head {x = y} {xs = w ∷ ws} e) =
    subst (λ v. minℤ y (minimumℤ (w ∷ ws)) ≤ℤ v) (sym e) (min_left y (minimumℤ (w ∷ ws)))
minimumℤ_le (Memᴰ.tail {x = y} {xs = w ∷ ws} m) = ≤ℤ-trans (min_right y (minimumℤ (w ∷ ws))) (minimumℤ_le m)
minimumℤ_le (Memᴰ.tail {x = y} {xs = []} m) = elim m [ ]

pub minimumℤ_at : (xs : List ℤ) → 0 < length xs → Memᴰ (minimumℤ xs) xs
unfolding minimumℤ minℤ
minimumℤ_at [] h = absurd (omega arith)
minimumℤ_at (x ∷ []) h = Memᴰ.head refl
minimumℤ_at (x ∷ y ∷ ys) h =
    cond_ind (le_z x (minimumℤ (y ∷ ys))) x (minimumℤ (y ∷ ys)) (λ w. Memᴰ w (x ∷ y ∷ ys)) (λ t. Memᴰ.head refl)
    (λ t. Memᴰ.tail (minimumℤ_at (y ∷ ys) (omega arith)))

-- ---- sums of a function over a list

module _ {A : Type 0} where
  pub sum_append : (u : A → ℤ) (xs ys : List A) → sum_ofℤ (map u (xs ++ ys)) ≡ sum_ofℤ (map u xs) +ℤ sum_ofℤ (map u ys)
  unfolding sum_ofℤ
  sum_append u [] ys = simp zl (omega arith)
  sum_append u (x ∷ xs) ys = let h = sum_append u xs ys in simp zl (omega (arith, z, simp zl at h))

  pub sum_add : (u v : A → ℤ) (xs : List A) → sum_ofℤ (map (λ x. u x +ℤ v x) xs) ≡ sum_ofℤ (map u xs) +ℤ sum_ofℤ (map v xs)
  unfolding sum_ofℤ
  sum_add u v [] = refl
  sum_add u v (x ∷ xs) = let h = sum_add u v xs in simp zl (omega (arith, z, simp zl at h))

  pub sum_sub : (u v : A → ℤ) (xs : List A) → sum_ofℤ (map (λ x. u x -ℤ v x) xs) ≡ sum_ofℤ (map u xs) -ℤ sum_ofℤ (map v xs)
  unfolding sum_ofℤ
  sum_sub u v [] = refl
  sum_sub u v (x ∷ xs) = let h = sum_sub u v xs in simp zl (omega (arith, z, simp zl at h))

  pub sum_pos : (f : A → ℕ) (xs : List A) → sum_ofℤ (map (λ x. pos (f x)) xs) ≡ pos (sum_of (map f xs))
  unfolding sum_ofℤ sum_of
  sum_pos f [] = refl
  sum_pos f (x ∷ xs) = ap (λ (w : ℤ). pos (f x) +ℤ w) (sum_pos f xs)

  pub sum_nonneg : (u : A → ℤ) (xs : List A) → ((x : A) → Memᴰ x xs → pos 0 ≤ℤ u x) → pos 0 ≤ℤ sum_ofℤ (map u xs)
  unfolding sum_ofℤ
  sum_nonneg u [] h = ≤ℤ_refl (pos 0)
  sum_nonneg u (x ∷ xs) h =
      let a = h x (Memᴰ.head refl) in
      let b = sum_nonneg u xs (λ y m. h y (Memᴰ.tail m)) in
      simp zl (omega (arith, z))

  pub sum_map : {B : Type 0} (f : A → B) (u : B → ℤ) (xs : List A) → sum_ofℤ (map u (map f xs)) ≡ sum_ofℤ (map (λ x. u (f x)) xs)
  unfolding sum_ofℤ
  sum_map f u [] = refl
  sum_map f u (x ∷ xs) = ap (λ (w : ℤ). u (f x) +ℤ w) (sum_map f u xs)

  pub sum_pick : (u : A → ℤ) {x : A} {xs ys : List A} → Pick x xs ys → sum_ofℤ (map u xs) ≡ u x +ℤ sum_ofℤ (map u ys)
  unfolding sum_ofℤ
  sum_pick u (here {xs = xs} e) = ap (λ (w : A). u w +ℤ sum_ofℤ (map u xs)) (sym e)
  sum_pick u (there q) = let h = sum_pick u q in simp zl (omega (arith, z, simp zl at h))

-- ---- sums of products with how often a vertex occurs

times_delta : (u : ℕ → ℤ) (i s : ℕ) → u i *ℤ pos (delta i s) ≡ u s *ℤ pos (delta i s)
unfolding delta
times_delta u i s =
    cond_ind (eqb i s) 1 0 (λ x. u i *ℤ pos x ≡ u s *ℤ pos x) (λ t. ap (λ (w : ℕ). u w *ℤ pos 1) (eqb→eq i s t))
    (λ t. *ℤ-zero (u i) ∙ sym (*ℤ-zero (u s)))

-- a sum that only the terms of s enter
sum_delta : (u : ℕ → ℤ) (s : ℕ) (vs : List ℕ) → sum_ofℤ (map (λ i. u i *ℤ pos (delta i s)) vs) ≡ u s *ℤ pos (occurrences s vs)
unfolding sum_ofℤ occurrences one
sum_delta u s [] = sym (*ℤ-zero (u s))
sum_delta u s (v ∷ vs) =
    ap₂ ◌+ℤ◌ (times_delta u v s ∙ ap (λ (w : ℕ). u s *ℤ pos w) (delta_sym v s)) (sum_delta u s vs)
    ∙ sym (*ℤ-+ℤ (u s) (pos (delta s v)) (pos (occurrences s vs)))

-- Σ u(i) × (how often i occurs in ss), over vertices among which each of ss is once, is the sum of u over ss
pub sum_occurrences : (u : ℕ → ℤ) (vs ss : List ℕ) → Within vs ss
    → sum_ofℤ (map (λ i. u i *ℤ pos (occurrences i ss)) vs) ≡ sum_ofℤ (map u ss)
unfolding sum_ofℤ occurrences one
sum_occurrences u vs [] h = nothing vs
  where
    nothing : (vs : List ℕ) → sum_ofℤ (map (λ i. u i *ℤ pos 0) vs) ≡ pos 0
    nothing [] = refl
    nothing (v ∷ vs) = ap₂ ◌+ℤ◌ (*ℤ-zero (u v)) (nothing vs)
sum_occurrences u vs (s ∷ ss) h =
    let o = h.once s in
    let m = occurrences_of_mem (h.among s (Memᴰ.head refl)) in
    let single : occurrences s vs ≡ 1 = omega arith in
    let r = sum_occurrences u vs ss (record { once = h.once; among = λ i n. h.among i (Memᴰ.tail n) }) in
    ap (λ (f : ℕ → ℤ). sum_ofℤ (map f vs)) (fun_ext (λ i. *ℤ-+ℤ (u i) (pos (delta i s)) (pos (occurrences i ss))))
    ∙ sum_add (λ i. u i *ℤ pos (delta i s)) (λ i. u i *ℤ pos (occurrences i ss)) vs
    ∙ ap₂ ◌+ℤ◌ (sum_delta u s vs ∙ ap (λ (w : ℕ). u s *ℤ pos w) single ∙ *ℤ-one (u s)) r
