-- Either going back along the entries arrives at the root from every component, and they make a tree, or it ends in a circle, whose
-- shrinking leaves fewer components. A component that has not arrived after as many steps as there are components has gone round.
use Rattle.std.specs.Prelude.{◌≡◌, ◌≢◌, Bool, not, ◌||◌, length, T, eqb}
use Rattle.std.proofs.Math.Path.{refl, ap, subst⁻¹}
use Rattle.std.proofs.Common.{sym, ◌∙◌, subst, eqb→eq, T_not}
use Rattle.std.proofs.Math.Logic.{inl, inr}
use mathlib.Core.List.Memᴰ
use mathlib.Core.List.{List, [], ◌∷◌, map, Memᴰ}
use Prim.Native.Nat.{ℕ, zero, suc, ◌+◌, ◌-◌, ◌≤◌, ◌<◌}
use native.Mathlib.Omega.{arith}
use Rattle.std.proofs.Math.Dec.{not_T}
use Rattle.postman.specs.Lists.{select, below, iterate}
use Rattle.postman.specs.Laws.Tests.{cond_ind, or_cases}
use Rattle.postman.specs.Laws.Membership.{mem_map, map_mem, mem_below}
use Rattle.postman_laws.specs.Laws.Iteration.{iterate_add}
use Rattle.cheapest_tree.specs.Cheapest.{AreOthers, IsRootedTree, IsCircle, is_among, shrunk}
use Rattle.cheapest_tree.specs.Laws.Iterates.{iterate_last, steps_to, steps_fall, goes_round, reduce}
use Rattle.cheapest_tree.specs.Laws.Edmonds.{among_of}

-- the components that n steps pass
unfoldable pub orbit : (ℕ → ℕ) → ℕ → ℕ → List ℕ
unfolding iterate below
orbit entry n y = map (λ i. iterate i entry y) (below n)

module _ (vs : List ℕ) (entry : ℕ → ℕ) (others : AreOthers vs) (root : entry 0 ≡ 0)
    (inside : (q : ℕ) → Memᴰ q vs → Memᴰ (entry q) (0 ∷ vs)) where
  -- all arrive: the entries make a tree
  pub entries_tree : (n : ℕ) → ((q : ℕ) → Memᴰ q vs → iterate n entry q ≡ 0) → IsRootedTree vs entry
  entries_tree n h = record {
    inside = inside;
    rank = steps_to entry 0 (suc n);
    falls = λ q m. steps_fall entry 0 (suc n) q n (omega arith) (h q m) (others.positive q m);
  }

  stays_root : (n : ℕ) → iterate n entry 0 ≡ 0
  unfolding iterate
  stays_root zero = refl
  stays_root (suc n) = ap (iterate n entry) root ∙ stays_root n

  -- where the root is not reached after n steps it is not reached before
  stays : (n x : ℕ) → Memᴰ x vs → iterate n entry x ≢ 0 → (i : ℕ) → i ≤ n → Memᴰ (iterate i entry x) vs
  unfolding iterate
  stays zero x m h i l = subst⁻¹ (λ j. Memᴰ (iterate j entry x) vs) (let e : i ≡ 0 = omega arith in e) m
  stays (suc n) x m h zero l = m
  stays (suc n) x m h (suc i) l = elim (Memᴰ.cases_cons (inside x m)) [
    | inl e ↦ absurd (h (ap (iterate n entry) e ∙ stays_root n))
    | inr k ↦ stays n (entry x) k h i (omega arith)
  ]

  module _ (n x : ℕ) (few : length vs ≤ n) (m : Memᴰ x vs) (lost : iterate n entry x ≢ 0) where
    abbrev y : ℕ
    y = iterate n entry x

    round : (k : ℕ) × (1 ≤ k) × (k ≤ n) × (iterate k entry y ≡ y)
    round = goes_round entry n x vs few (stays n x m lost)

    y_mem : Memᴰ y vs
    y_mem = stays n x m lost n (omega arith)

    -- a member of the orbit, by fewer steps than it takes to go round
    member : (q : ℕ) → Memᴰ q (orbit entry n y) → (j : ℕ) × (j < round.0) × (q ≡ iterate j entry y)
    unfolding orbit
    member q h =
        let r = map_mem (λ i. iterate i entry y) (below n) h in
        let s = reduce entry round.0 y round.1 round.3 r.0 in
        (s.0, s.1, r.2 ∙ s.2)

    of_steps : (j : ℕ) → j < round.0 → Memᴰ (iterate j entry y) (orbit entry n y)
    unfolding orbit
    of_steps j l = let b = round.2 in let h : j < n = omega arith in mem_map (λ i. iterate i entry y) (mem_below h)

    pub start_mem : Memᴰ y (orbit entry n y)
    unfolding iterate
    start_mem = of_steps 0 round.1

    pub is_circle : IsCircle vs entry (orbit entry n y) (n + n)
    is_circle = record {
      among = λ q h. (let r = member q h in let l = r.1 in
          subst⁻¹ (λ q. Memᴰ q vs) r.2 (stays round.0 y y_mem (λ e. lost (sym round.3 ∙ e)) r.0 (omega arith)));
      closed = λ q h. (let r = member q h in let s = reduce entry round.0 y round.1 round.3 (suc r.0) in
          subst⁻¹ (λ q. Memᴰ q (orbit entry n y)) (ap entry r.2 ∙ sym (iterate_last r.0 entry y) ∙ s.2)
          (of_steps s.0 s.1));
      around = λ p q h g.
          (let r = member p h in
          let s = member q g in
          let k = round.0 in
          let b = round.2 in
          let l = r.1 in
          let l' = s.1 in
          let e : r.0 + (k - r.0) ≡ k = omega arith in (
            k - r.0 + s.0,
            omega arith,
            ap (iterate (k - r.0 + s.0) entry) r.2 ∙ iterate_add (k - r.0) s.0 entry (iterate r.0 entry y)
                ∙ ap (iterate s.0 entry) (sym (iterate_add r.0 (k - r.0) entry y) ∙ ap (λ i. iterate i entry y) e ∙ round.3)
                ∙ sym s.2,
          ));
    }

-- what a test drops makes the list shorter
pub select_le : (f : ℕ → Bool) (xs : List ℕ) → length (select f xs) ≤ length xs
unfolding select
select_le f [] = omega arith
select_le f (x ∷ xs) = let r = select_le f xs in
    cond_ind (f x) (x ∷ select f xs) (select f xs) (λ l. length l ≤ suc (length xs)) (λ t. omega arith) (λ t. omega arith)

select_lt : (f : ℕ → Bool) {x : ℕ} {xs : List ℕ} → Memᴰ x xs → T (not (f x)) → length (select f xs) < length xs
unfolding select
select_lt f (Memᴰ.head {x = y} {xs = ys} e) t =
    let r = select_le f ys in
    cond_ind (f y) (y ∷ select f ys) (select f ys) (λ l. length l < suc (length ys))
    (λ u. absurd (T_not (f y) (subst (λ z. T (not (f z))) e t) u)) (λ u. omega arith)
select_lt f (Memᴰ.tail {x = y} {xs = ys} m) t =
    let r = select_lt f m t in
    cond_ind (f y) (y ∷ select f ys) (select f ys) (λ l. length l < suc (length ys)) (λ u. omega arith) (λ u. omega arith)

-- a circle has two members, so that shrinking it leaves fewer components
pub shrunk_fewer : (vs cs : List ℕ) (c d : ℕ) (entry : ℕ → ℕ) → IsCircle vs entry cs d → Memᴰ c cs → entry c ≢ c
    → length (shrunk cs c vs) < length vs
unfolding shrunk
shrunk_fewer vs cs c d entry k m o =
    let h = k.closed c m in
    select_lt (λ q. not (is_among q cs) || eqb q c) (k.among (entry c) h)
    (not_T (not (is_among (entry c) cs) || eqb (entry c) c) (λ t. elim (or_cases (not (is_among (entry c) cs)) (eqb (entry c) c) t) [
      | inl a ↦ T_not (is_among (entry c) cs) a (among_of h)
      | inr e ↦ o (eqb→eq (entry c) c e)
    ]))
