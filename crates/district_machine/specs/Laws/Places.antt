-- A free place: a list that holds each of n numbers is at least n long, so that fewer than eight districts leave a place free; and the
-- lowest free place is free, and no other free one is below it.
use Rattle.std.specs.Prelude.{Option, None, Some, cond, ◌≡◌, ◌≢◌, Bool, not, ℕ, zero, suc, ◌+◌, ◌≤◌, ◌<◌, length, T}
use Rattle.std.specs.List.{find, range_with_len}
use Rattle.std.specs.Option.{option_map}
use Rattle.std.proofs.Common.{ap, ◌∙◌, zero-add, add-one, subst, inl, inr, arith, T_not, lt→ltb, nltb→le}
use Rattle.std.proofs.Math.Bool.{true, false}
use mathlib.Core.List.{List, Memᴰ}
use Rattle.std.proofs.lemmas.List.{length-map}
use Rattle.std.proofs.Math.Dec.{ltb, ltb→lt}
use Rattle.postman.specs.Lists.{up_from, below, first_index, occurs, any_of}
use Rattle.postman.specs.Laws.Tests.{test, not_not, is_true, is_false}
use Rattle.postman.specs.Laws.Membership.{any_of_at, any_of_not, mem_below, below_mem, mem_map}
use Rattle.postman_laws.specs.Laws.Distinct.{mem_occurs, occurs_mem}
use Rattle.postman_laws.specs.Laws.Pick.{pick_of_mem, pick_length, pick_cases}
use Rattle.postman_laws.specs.Laws.FirstNumber.{first_lt, first_test}
use Rattle.postman.specs.Districts.{District, Line, places, lowest_free}
use Rattle.district_machine.specs.Places.{lowest_below}

covered : (n : ℕ) (xs : List ℕ) → ((q : ℕ) → q < n → Memᴰ q xs) → n ≤ length xs
covered zero xs h = omega arith
covered (suc n) xs h =
    let r = pick_of_mem (h n (omega arith)) in
    let e = pick_length r.1 in
    let c = covered n r.0 (λ q l. elim (pick_cases r.1 (h q (omega arith))) [ inl e ↦ absurd (omega arith) | inr m ↦ m ]) in
    omega arith

module _ (l : Line) (few : length l < 8) where
  abbrev free : ℕ → Bool
  free q = not (occurs q (places l))

  some_free : (q : ℕ) × Memᴰ q (below 8) × T (free q)
  some_free = elim (test (any_of free (below 8))) [
    | inl t ↦ any_of_at free (below 8) t
    | inr t ↦ (let c =
        covered 8 (places l) (λ q m. occurs_mem q (places l) (not_not (occurs q (places l)) (any_of_not free (mem_below m) t))) in
        let n = length-map l (λ (d : District). d.place) in
        absurd (omega arith))
  ]

  -- THE LOWEST FREE PLACE
  pub free_small : lowest_free l < 8
  unfolding lowest_free
  free_small = let s = some_free in first_lt free 8 (below_mem s.1) s.2

  is_free : T (free (lowest_free l))
  unfolding lowest_free
  is_free = first_test free 8 free_small

  pub free_other : (d : District) → Memᴰ d l → d.place ≢ lowest_free l
  free_other d m e =
      T_not (occurs (lowest_free l) (places l)) is_free
      (subst (λ q. T (occurs q (places l))) e (mem_occurs (mem_map (λ (d : District). d.place) m)))

  -- the search for it: below q + 1 it is the one below q, or q itself
  none_below : (q : ℕ) → q ≤ lowest_free l → lowest_below l q ≡ 8
  unfolding lowest_below
  none_below q m =
      let t : ltb (lowest_free l) q ≡ false = is_false (λ t. (let a = ltb→lt (lowest_free l) q t in absurd (omega arith))) in
      rw t

  one_below : (q : ℕ) → lowest_free l < q → lowest_below l q ≡ lowest_free l
  unfolding lowest_below
  one_below q m =
      let t : ltb (lowest_free l) q ≡ true = is_true (lt→ltb (lowest_free l) q m) in
      rw t

  pub from_none : lowest_below l 0 ≡ 8
  from_none = none_below 0 (omega arith)

  not_found : (q : ℕ) → lowest_below l q ≡ 8 → q ≤ lowest_free l
  not_found q e = elim (test (ltb (lowest_free l) q)) [
    | inl t ↦ (let a = one_below q (ltb→lt (lowest_free l) q t) in let s = free_small in absurd (omega arith))
    | inr t ↦ nltb→le (lowest_free l) q t
  ]

-- ---- a search from 0 on

-- the first number from a on that passes
find_step : (b : Bool) (a n x : ℕ) (rest : Option ℕ) → cond b 0 (suc x) < suc n → (x < n → rest ≡ Some (suc a + x))
    → cond b (Some a) rest ≡ Some (a + cond b 0 (suc x))
find_step true a n x rest l h = ap Some (let e : a ≡ a + 0 = omega arith in e)
find_step false a n x rest l h = h (omega arith) ∙ ap Some (let e : suc a + x ≡ a + suc x = omega arith in e)

find_from : (f : ℕ → Bool) (a n : ℕ) → first_index f (up_from a n) < n
    → find f (range_with_len a n) ≡ Some (a + first_index f (up_from a n))
unfolding first_index up_from
find_from f a zero l = absurd (omega arith)
find_from f a (suc n) l =
    rw add-one (find_step (f a) a n (first_index f (up_from (suc a) n)) (find f (range_with_len (suc a) n)) l (find_from f (suc a) n))

pub lowest_found : (l : Line) → length l < 8 → (r : Option ℕ)
    → option_map (λ (q : ℕ). q) r ≡ find (λ q. not (occurs q (places l))) (range_with_len 0 8)
    → r ≡ Some (lowest_free l)
unfolding lowest_free below
lowest_found l few None e = absurd (is_none_some (e ∙ find_from (λ q. not (occurs q (places l))) 0 8 (free_small l few)))
  where
    is_none_some : {x : ℕ} → ◌≡◌ {A = Option ℕ} None (Some x) → ⊥
    is_none_some e = cc
lowest_found l few (Some x) e =
    e ∙ find_from (λ q. not (occurs q (places l))) 0 8 (free_small l few)
    ∙ ap Some (zero-add (first_index (λ q. not (occurs q (places l))) (up_from 0 8)))
