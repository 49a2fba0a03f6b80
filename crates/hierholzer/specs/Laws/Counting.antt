-- Lists compared by how often each number occurs in them. By induction on the first list, its elements picked from the second.
use Rattle.std.specs.Prelude.{◌≡◌, refl, ℕ, ◌≤◌, ◌<◌, length}
use Rattle.std.proofs.Common.{sym, inl, inr, zero-le, arith}
use mathlib.Core.List.Memᴰ
use mathlib.Core.List.{List, [], ◌∷◌, map, Memᴰ}
use Rattle.std.proofs.Math.Decide.{dec_le}
use Rattle.postman.specs.Lists.{below, delta, occurrences}
use Rattle.postman.specs.Laws.Membership.{mem_below, below_mem}
use Rattle.postman.specs.Steps.{Permutation, none, more}
use Rattle.postman_laws.specs.Laws.Pick.{pick_of_mem, pick_length, mem_of_pick, left_mem}
use Rattle.postman_laws.specs.Laws.Occurrences.{delta_yes, delta_pos, mem_of_occurrences, occurrences_of_mem, occurrences_pick, occurrences_map_pick, occurrences_up_from}

-- what occurs at most as often occurs at most as often under a map
pub map_le : (f : ℕ → ℕ) (v : ℕ) (xs ys : List ℕ) → ((k : ℕ) → f k ≡ v → occurrences k xs ≤ occurrences k ys)
    → occurrences v (map f xs) ≤ occurrences v (map f ys)
unfolding occurrences
map_le f v [] ys h = zero-le
map_le f v (x ∷ xs) ys h = elim (dec_le 1 (delta v (f x))) [
  | yes g ↦
      let e = delta_pos v (f x) g in
      let a = h x (sym e) in
      let s = delta_yes {i = x} refl in
      let q = pick_of_mem (mem_of_occurrences x ys (omega arith)) in
      let c = occurrences_map_pick v f q.1 in
      let r = map_le f v xs q.0 (λ k m. let b = h k m in let d = occurrences_pick k q.1 in omega arith) in
      omega arith
  | no g ↦ let r = map_le f v xs ys (λ k m. let b = h k m in omega arith) in omega arith
]

occurrences_zeros : (xs : List ℕ) → occurrences 0 (map (λ k. 0) xs) ≡ length xs
unfolding occurrences
occurrences_zeros [] = refl
occurrences_zeros (x ∷ xs) = let h = occurrences_zeros xs in let s = delta_yes {i = 0} refl in omega arith

pub length_le : (xs ys : List ℕ) → ((k : ℕ) → occurrences k xs ≤ occurrences k ys) → length xs ≤ length ys
length_le xs ys h = let r = map_le (λ k. 0) 0 xs ys (λ k e. h k) in let a = occurrences_zeros xs in let b = occurrences_zeros ys in
    omega arith

-- what occurs equally often is in another order
pub permutation : (xs ys : List ℕ) → ((k : ℕ) → occurrences k xs ≡ occurrences k ys) → Permutation xs ys
unfolding occurrences
permutation [] [] h = none
permutation [] (y ∷ ys) h = let a = h y in let s = delta_yes {i = y} refl in absurd (omega arith)
permutation (x ∷ xs) ys h =
    let a = h x in
    let s = delta_yes {i = x} refl in
    let q = pick_of_mem (mem_of_occurrences x ys (omega arith)) in
    more q.1 (permutation xs q.0 (λ k. let b = h k in let d = occurrences_pick k q.1 in omega arith))

-- ---- the numbers below n: each once

pub below_once : (n k : ℕ) → k < n → occurrences k (below n) ≡ 1
unfolding below
below_once n k l = let a = occurrences_up_from k 0 n in let b = occurrences_of_mem (mem_below {n = n} l) in omega arith

pub below_none : (n k : ℕ) → n ≤ k → occurrences k (below n) ≡ 0
below_none n k l = elim (dec_le 1 (occurrences k (below n))) [
  | yes g ↦ let m = below_mem {n = n} (mem_of_occurrences k (below n) g) in absurd (omega arith)
  | no g ↦ omega arith
]

pub below_lt : (n k : ℕ) → 0 < occurrences k (below n) → k < n
below_lt n k l = below_mem {n = n} (mem_of_occurrences k (below n) l)

pub permutation_length : {xs ys : List ℕ} → Permutation xs ys → length xs ≡ length ys
permutation_length none = refl
permutation_length (more q s) = let a = pick_length q in let b = permutation_length s in omega arith

pub mem_of_permutation : {x : ℕ} {xs ys : List ℕ} → Permutation xs ys → Memᴰ x xs → Memᴰ x ys
mem_of_permutation none m = m
mem_of_permutation (more q s) m =
    elim (Memᴰ.cases_cons m) [ inl e ↦ Memᴰ.cast e (mem_of_pick q) | inr n ↦ left_mem q (mem_of_permutation s n) ]
