-- How often a number occurs: in a list that is made from others, and in a list without one of its elements. By induction on the list.
use Rattle.std.specs.Prelude.{◌≡◌, refl, ◌⊎◌, ◌≢◌, Bool, ℕ, zero, suc, ◌+◌, ◌≤◌, ◌<◌, length, eqb}
use Rattle.std.proofs.Common.{sym, ap, ◌∙◌, inl, inr, zero-le, le_refl, arith, eqb→eq, T_not}
use mathlib.Core.List.{List, [], ◌∷◌, ◌++◌, map, Memᴰ}
use Rattle.std.proofs.Math.Decide.{dec_le}
use Rattle.postman.specs.Lists.{select, up_from, delta, occurrences}
use Rattle.postman.specs.Laws.Tests.{cond_ind, eqb_same}
use Rattle.postman.specs.Steps.{Permutation, Pick, here, there, none, more}

pub delta_yes : {i j : ℕ} → i ≡ j → delta i j ≡ 1
unfolding delta
delta_yes {i} {j} e = cond_ind (eqb i j) 1 0 (λ x. x ≡ 1) (λ t. refl) (λ t. absurd (T_not (eqb i j) t (eqb_same e)))

pub delta_no : (i j : ℕ) → i ≢ j → delta i j ≡ 0
unfolding delta
delta_no i j h = cond_ind (eqb i j) 1 0 (λ x. x ≡ 0) (λ t. absurd (h (eqb→eq i j t))) (λ t. refl)

pub delta_pos : (i j : ℕ) → 0 < delta i j → i ≡ j
unfolding delta
delta_pos i j = cond_ind (eqb i j) 1 0 (λ x. 0 < x → i ≡ j) (λ t h. eqb→eq i j t) (λ t h. absurd (omega arith))

pub delta_le : (i j : ℕ) → delta i j ≤ 1
unfolding delta
delta_le i j = cond_ind (eqb i j) 1 0 (λ x. x ≤ 1) (λ t. le_refl 1) (λ t. zero-le)

pub delta_sym : (i j : ℕ) → delta i j ≡ delta j i
delta_sym i j = elim (dec_le 1 (delta i j)) [
  | yes g ↦ let e = delta_pos i j g in delta_yes e ∙ sym (delta_yes (sym e))
  | no g ↦ elim (dec_le 1 (delta j i)) [
    | yes h ↦ let e = delta_yes (sym (delta_pos j i h)) in absurd (omega arith)
    | no h ↦ omega arith
  ]
]

pub occurrences_cons : (i x : ℕ) (xs : List ℕ) → occurrences i (x ∷ xs) ≡ delta i x + occurrences i xs
unfolding occurrences
occurrences_cons i x xs = refl

pub mem_of_occurrences : (x : ℕ) (ts : List ℕ) → 0 < occurrences x ts → Memᴰ x ts
unfolding occurrences
mem_of_occurrences x [] h = absurd (omega arith)
mem_of_occurrences x (t ∷ ts) h = elim (dec_le 1 (delta x t)) [
  | yes g ↦ Memᴰ.head (delta_pos x t g)
  | no g ↦ Memᴰ.tail (mem_of_occurrences x ts (omega arith))
]

pub occurrences_of_mem : {x : ℕ} {ts : List ℕ} → Memᴰ x ts → 0 < occurrences x ts
unfolding occurrences
occurrences_of_mem (Memᴰ.head e) = let s = delta_yes e in omega arith
occurrences_of_mem (Memᴰ.tail m) = let h = occurrences_of_mem m in omega arith

pub mem? : (x : ℕ) (xs : List ℕ) → Memᴰ x xs ⊎ (Memᴰ x xs → ⊥)
mem? x xs = elim
    (dec_le 1 (occurrences x xs)) [
      | yes h ↦ inl (mem_of_occurrences x xs h)
      | no h ↦
          inr (λ m. (let k = occurrences_of_mem m in omega arith))
    ]

pub occurrences_append : (i : ℕ) (xs ys : List ℕ) → occurrences i (xs ++ ys) ≡ occurrences i xs + occurrences i ys
unfolding occurrences
occurrences_append i [] ys = omega arith
occurrences_append i (x ∷ xs) ys = let h = occurrences_append i xs ys in omega arith

pub occurrences_few : (i : ℕ) (xs : List ℕ) → occurrences i xs ≤ length xs
unfolding occurrences
occurrences_few i [] = omega arith
occurrences_few i (x ∷ xs) = let h = occurrences_few i xs in let d = delta_le i x in omega arith

pub occurrences_select : (i : ℕ) (f : ℕ → Bool) (xs : List ℕ) → occurrences i (select f xs) ≤ occurrences i xs
unfolding select occurrences
occurrences_select i f [] = zero-le
occurrences_select i f (x ∷ xs) =
    let h = occurrences_select i f xs in
    cond_ind (f x) (x ∷ select f xs) (select f xs) (λ l. occurrences i l ≤ delta i x + occurrences i xs) (λ t. omega arith)
    (λ t. omega arith)

occurrences_up_from_none : (i a n : ℕ) → i < a → occurrences i (up_from a n) ≡ 0
unfolding up_from occurrences delta
occurrences_up_from_none i a zero h = refl
occurrences_up_from_none i a (suc n) h =
    let e = occurrences_up_from_none i (suc a) n (omega arith) in
    let z = delta_no i a (omega arith) in
    omega arith

-- numbers in a row are distinct
pub occurrences_up_from : (i a n : ℕ) → occurrences i (up_from a n) ≤ 1
unfolding up_from occurrences
occurrences_up_from i a zero = zero-le
occurrences_up_from i a (suc n) = elim (dec_le (suc a) i) [
  | yes h ↦ let e = occurrences_up_from i (suc a) n in let z = delta_no i a (omega arith) in omega arith
  | no h ↦ let e = occurrences_up_from_none i (suc a) n (omega arith) in let b = delta_le i a in omega arith
]

-- ---- of a list, mapped, without one of its elements; and in another order

pub occurrences_map_pick : {A : Type 0} (i : ℕ) (f : A → ℕ) {x : A} {xs ys : List A} → Pick x xs ys
    → occurrences i (map f xs) ≡ delta i (f x) + occurrences i (map f ys)
unfolding occurrences
occurrences_map_pick i f (here e) = let h = ap (λ z. delta i (f z)) e in omega arith
occurrences_map_pick i f (there q) = let h = occurrences_map_pick i f q in omega arith

pub occurrences_pick : (i : ℕ) {x : ℕ} {ts rs : List ℕ} → Pick x ts rs → occurrences i ts ≡ delta i x + occurrences i rs
unfolding occurrences
occurrences_pick i (here e) = let f = ap (delta i) e in omega arith
occurrences_pick i (there p) = let h = occurrences_pick i p in omega arith

pub occurrences_map_permutation : {A : Type 0} (i : ℕ) (f : A → ℕ) {xs ys : List A} → Permutation xs ys
    → occurrences i (map f xs) ≡ occurrences i (map f ys)
unfolding occurrences
occurrences_map_permutation i f none = refl
occurrences_map_permutation i f (more q s) = let h = occurrences_map_permutation i f s in let k = occurrences_map_pick i f q in omega arith
