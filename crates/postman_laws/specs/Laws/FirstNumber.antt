-- The first number below n that passes a test: what a search that counts up finds. From the laws of the first place in a list.
use Rattle.std.specs.Prelude.{◌≡◌, refl, Bool, true, false, ℕ, zero, suc, ◌+◌, ◌≤◌, ◌<◌, length, get_or, T}
use Rattle.std.proofs.Common.{ap, ◌∙◌, subst, arith, T_not}
use Rattle.std.proofs.Math.Path.{subst⁻¹}
use mathlib.Core.List.{List, [], ◌∷◌, Memᴰ}
use Rattle.postman.specs.Lists.{below, up_from, first_index}
use Rattle.postman.specs.Laws.Tests.{cond_ind}
use Rattle.postman.specs.Laws.Membership.{mem_below, below_mem, length_below}
use Rattle.postman_laws.specs.Laws.Ascending.{index_lt, index_at, index_test}

pub at_up_from : (a n k : ℕ) → k < n → get_or (up_from a n) k 0 ≡ a + k
unfolding up_from
at_up_from a zero k l = absurd (omega arith)
at_up_from a (suc n) zero l = omega arith
at_up_from a (suc n) (suc k) l = let r = at_up_from (suc a) n k (omega arith) in omega arith

pub at_below : (n k : ℕ) → k < n → get_or (below n) k 0 ≡ k
unfolding below
at_below n k l = let r = at_up_from 0 n k l in omega arith

-- none passes: the first that does is past the end
pub index_none : (f : ℕ → Bool) (xs : List ℕ) → ((x : ℕ) → Memᴰ x xs → f x ≡ false) → first_index f xs ≡ length xs
unfolding first_index
index_none f [] h = refl
index_none f (x ∷ xs) h = rw (h x (Memᴰ.head refl)) (ap suc (index_none f xs (λ y m. h y (Memᴰ.tail m))))

-- the first that passes is no later than any that does
index_le : (f : ℕ → Bool) (xs : List ℕ) (k : ℕ) → k < length xs → T (f (get_or xs k 0)) → first_index f xs ≤ k
unfolding first_index
index_le f [] k l t = absurd (omega arith)
index_le f (x ∷ xs) zero l t = cond_ind (f x) 0 (suc (first_index f xs)) (λ i. i ≤ 0) (λ u. omega arith) (λ u. absurd (T_not (f x) u t))
index_le f (x ∷ xs) (suc k) l t =
    let r = index_le f xs k (omega arith) t in
    cond_ind (f x) 0 (suc (first_index f xs)) (λ i. i ≤ suc k) (λ u. omega arith) (λ u. omega arith)

module _ (f : ℕ → Bool) (n : ℕ) where
  pub first_lt : {k : ℕ} → k < n → T (f k) → first_index f (below n) < n
  first_lt l t = let r = index_lt f (mem_below l) t in let e = length_below n in omega arith

  pub first_le : {k : ℕ} → k < n → T (f k) → first_index f (below n) ≤ k
  first_le {k} l t = let e = length_below n in index_le f (below n) k (omega arith) (subst⁻¹ (λ x. T (f x)) (at_below n k l) t)

  pub first_test : first_index f (below n) < n → T (f (first_index f (below n)))
  first_test l =
      let e = length_below n in
      subst (λ k. T (f k)) (at_below n (first_index f (below n)) l) (index_test f (below n) (omega arith))

  pub first_at : (k : ℕ) → k < n → f k ≡ true → ((r : ℕ) → r < k → f r ≡ false) → first_index f (below n) ≡ k
  first_at k l e h =
      let s = length_below n in
      index_at f (below n) k (omega arith) (rw (at_below n k l, e) tt) (λ r g. rw (at_below n r (omega arith), h r g) tt)

  pub first_none : ((k : ℕ) → k < n → f k ≡ false) → first_index f (below n) ≡ n
  first_none h = index_none f (below n) (λ k m. h k (below_mem m)) ∙ length_below n
