-- The numbers of a list, each once: they are the list's, none stands twice, and one number more at the end adds itself exactly if it did
-- not occur before. By induction on the list.
use Rattle.std.specs.Prelude.{◌≡◌, refl, Bool, true, false, not, cond, ◌||◌, ℕ, ◌+◌, ◌≤◌, ◌<◌, length, T, eqb}
use Rattle.std.proofs.Common.{sym, subst, inl, inr, arith, eq-eqb, ne_eqb, T_not, eqb→eq}
use Rattle.std.proofs.Math.Path.{subst⁻¹}
use Rattle.std.proofs.Math.Bool.{or-false, or_assoc}
use mathlib.Core.List.Memᴰ
use mathlib.Core.List.{List, [], ◌∷◌, ◌++◌, Memᴰ}
use Rattle.std.proofs.Math.Decide.{ℕ_discrete, dec_le}
use Rattle.std.proofs.Math.Dec.{eqb_refl}
use Rattle.postman.specs.Lists.{any_of, occurs, distinct, occurrences}
use Rattle.postman.specs.Laws.Tests.{cond_ind}
use Rattle.postman.specs.Laws.Membership.{any_of_mem, any_of_at}
use Rattle.postman_laws.specs.Laws.Occurrences.{delta_yes, delta_no, mem_of_occurrences}

-- ---- whether a number occurs

pub mem_occurs : {x : ℕ} {xs : List ℕ} → Memᴰ x xs → T (occurs x xs)
unfolding occurs
mem_occurs {x} m = any_of_mem (eqb x) m (eqb_refl x)

pub occurs_mem : (x : ℕ) (xs : List ℕ) → T (occurs x xs) → Memᴰ x xs
unfolding occurs
occurs_mem x xs t = let r = any_of_at (eqb x) xs t in subst⁻¹ (λ z. Memᴰ z xs) (eqb→eq x r.0 r.2) r.1

pub occurs_none : (v : ℕ) → occurs v [] ≡ false
unfolding occurs any_of
occurs_none v = refl

occurs_cons : (v x : ℕ) (xs : List ℕ) → occurs v (x ∷ xs) ≡ (eqb v x || occurs v xs)
unfolding occurs any_of
occurs_cons v x xs = refl

pub occurs_more : (v : ℕ) (xs : List ℕ) (x : ℕ) → occurs v (xs ++ x ∷ []) ≡ (occurs v xs || eqb v x)
occurs_more v [] x = simp (occurs_cons, occurs_none, or-false)
occurs_more v (y ∷ xs) x = let h = occurs_more v xs x in simp (occurs_cons, h) (sym (or_assoc (eqb v y) (occurs v xs) (eqb v x)))

-- ---- each once

pub distinct_mem : {x : ℕ} (xs : List ℕ) → Memᴰ x (distinct xs) → Memᴰ x xs
unfolding distinct
distinct_mem [] = λ m. elim m [ ]
distinct_mem {x} (y ∷ ys) =
    cond_ind (occurs y ys) (distinct ys) (y ∷ distinct ys) (λ l. Memᴰ x l → Memᴰ x (y ∷ ys))
    (λ t m. Memᴰ.tail (distinct_mem ys m))
    (λ t m. elim (Memᴰ.cases_cons m) [ inl e ↦ Memᴰ.head e | inr k ↦ Memᴰ.tail (distinct_mem ys k) ])

pub mem_distinct : {x : ℕ} (xs : List ℕ) → Memᴰ x xs → Memᴰ x (distinct xs)
unfolding distinct
mem_distinct [] = λ m. elim m [ ]
mem_distinct {x} (y ∷ ys) = λ m. elim (Memᴰ.cases_cons m) [
  | inl e ↦ cond_ind (occurs y ys) (distinct ys) (y ∷ distinct ys) (Memᴰ x)
      (λ t. mem_distinct ys (subst⁻¹ (λ z. Memᴰ z ys) e (occurs_mem y ys t))) (λ t. Memᴰ.head e)
  | inr k ↦ cond_ind (occurs y ys) (distinct ys) (y ∷ distinct ys) (Memᴰ x) (λ t. mem_distinct ys k)
      (λ t. Memᴰ.tail (mem_distinct ys k))
]

pub distinct_once : (x : ℕ) (xs : List ℕ) → occurrences x (distinct xs) ≤ 1
unfolding distinct occurrences
distinct_once x [] = omega arith
distinct_once x (y ∷ ys) =
    let h = distinct_once x ys in
    cond_ind (occurs y ys) (distinct ys) (y ∷ distinct ys) (λ l. occurrences x l ≤ 1) (λ t. h)
    (λ t. elim (ℕ_discrete x y) [
      | yes e ↦ let d = delta_yes e in let z = none e t in omega arith
      | no n ↦ let d = delta_no x y n in omega arith
    ])
  where
    none : x ≡ y → T (not (occurs y ys)) → occurrences x (distinct ys) < 1
    none e t = elim (dec_le 1 (occurrences x (distinct ys))) [
      | yes g ↦ absurd
          (T_not (occurs y ys) t (mem_occurs (subst (λ z. Memᴰ z ys) e (distinct_mem ys (mem_of_occurrences x (distinct ys) g)))))
      | no g ↦ omega arith
    ]

-- ---- how many

-- one number more, and whether it is there already
abbrev one_more : Bool → ℕ → ℕ
one_more there n = cond there n (n + 1)

pub distinct_none : length (distinct []) ≡ 0
unfolding distinct
distinct_none = refl

distinct_cons : (x : ℕ) (xs : List ℕ) → length (distinct (x ∷ xs)) ≡ one_more (occurs x xs) (length (distinct xs))
unfolding distinct
distinct_cons x xs = at (occurs x xs)
  where
    at : (b : Bool) → length (cond b (distinct xs) (x ∷ distinct xs)) ≡ one_more b (length (distinct xs))
    at true = refl
    at false = omega arith

pub distinct_more : (xs : List ℕ) (x : ℕ) → length (distinct (xs ++ x ∷ [])) ≡ one_more (occurs x xs) (length (distinct xs))
distinct_more [] x = distinct_cons x []
distinct_more (y ∷ xs) x =
    let h = distinct_more xs x in
    elim (ℕ_discrete y x) [
      | yes e ↦ simp (e, distinct_cons, occurs_more x xs x, occurs_cons, h, eq-eqb x x refl) (same (occurs x xs) (length (distinct xs)))
      | no n ↦ simp (distinct_cons, occurs_more y xs x, occurs_cons, h, ne_eqb y x n, ne_eqb x y (λ e. n (sym e)), or-false)
          (other (occurs y xs) (occurs x xs) (length (distinct xs)))
    ]
  where
    same : (b : Bool) (n : ℕ) → one_more (b || true) (one_more b n) ≡ one_more b n
    same true n = refl
    same false n = refl

    other : (b c : Bool) (n : ℕ) → one_more b (one_more c n) ≡ one_more c (one_more b n)
    other true c n = refl
    other false true n = refl
    other false false n = refl
