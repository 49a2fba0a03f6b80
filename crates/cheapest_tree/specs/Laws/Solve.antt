-- One level of Edmonds' recursion, on the arrays: the entries make a tree, or the circle is shrunk, and the least cost of the smaller
-- matrix with what was paid is the least cost of this one.
use Rattle.std.specs.Prelude.{◌≡◌, ◌≢◌, Bool, ◌&&◌, ◌||◌, ℕ, ◌+◌, ◌*◌, ◌/◌, ◌%◌, ◌≤◌, ◌<◌, length, set, ℤ, pos, ◌+ℤ◌, ◌-ℤ◌, ◌≤ℤ◌}
use Rattle.std.proofs.Math.Path.{refl, ap, subst⁻¹}
use Rattle.std.proofs.Common.{sym, ap₂, ◌∙◌, subst, get_or-set_same, get_or-set_other}
use Rattle.std.proofs.Math.Logic.{inl, inr}
use Rattle.std.proofs.Math.Bool.{true, false, not, cond}
use mathlib.Core.List.Memᴰ
use mathlib.Core.List.{List, [], ◌∷◌, map, Memᴰ}
use Rattle.std.proofs.Math.Decide.{ℕ_discrete}
use native.Mathlib.Omega.{arith}
use Rattle.std.proofs.Math.ListN.{get_or}
use Rattle.std.proofs.Math.Dec.{eqb, T_not}
use Rattle.std.specs.Int.Signed.{lt_z, ≤ℤ_refl}
use Rattle.postman_laws.specs.Laws.Contradiction.{zero_is_one}
use Rattle.integers.specs.Linear.{z, zl}
use Rattle.postman.specs.Lists.{select, up_from, below, sum_ofℤ, iterate}
use Rattle.postman.specs.Laws.Tests.{test, same_test, is_true, is_false, of_true}
use Rattle.postman.specs.Laws.Membership.{mem_select, select_mem, mem_up_from, up_from_mem, mem_map, map_mem, mem_below, below_mem, length_up_from}
use Rattle.postman_laws.specs.Laws.Occurrences.{occurrences_select, occurrences_up_from}
use Rattle.cheapest_tree.specs.Cheapest.{AreOthers, tree_cost, IsCheapest, AreEntries, IsReduced, IsCircle, is_among, shrunk, IsContraction}
use Rattle.cheapest_tree.specs.CostMatrix.{matrix_of, others_in, highest, IsCostMatrix, place_of, less, HasEntries, entry_of, pay_of, IsLost, IsMarked, IsPlace, IsShrunk, kept_of}
use Rattle.cheapest_tree.specs.Laws.Edmonds.{among_of, of_among, tree_of_entries, pay_entries, shrink_circle}
use Rattle.cheapest_tree.specs.Laws.Circle.{orbit, entries_tree, is_circle, start_mem, shrunk_fewer, select_le}
use Rattle.cheapest_tree.specs.Laws.CostMatrix.{pay_within, less_within}

-- ---- tests

not_both : {b : Bool} → b ≡ true → b ≡ false → ⊥
not_both e f = zero_is_one (cc)

select_select : (f g h : ℕ → Bool) (xs : List ℕ) → ((q : ℕ) → Memᴰ q xs → f q ≡ g q && h q) → select f xs ≡ select h (select g xs)
unfolding select
select_select f g h [] e = refl
select_select f g h (x ∷ xs) e =
    let r = select_select f g h xs (λ q m. e q (Memᴰ.tail m)) in
    ap (λ b. cond b (x ∷ select f xs) (select f xs)) (e x (Memᴰ.head refl)) ∙ picked (g x) (h x) refl r
  where
    picked : (b c : Bool) → h x ≡ c → select f xs ≡ select h (select g xs)
        → cond (b && c) (x ∷ select f xs) (select f xs) ≡ select h (cond b (x ∷ select g xs) (select g xs))
    picked true true s r = ap (λ (l : List ℕ). x ∷ l) r ∙ sym (ap (λ b. cond b (x ∷ select h (select g xs)) (select h (select g xs))) s)
    picked true false s r = r ∙ sym (ap (λ b. cond b (x ∷ select h (select g xs)) (select h (select g xs))) s)
    picked false c s r = r

-- ---- the components left

module _ (left : List Bool) where
  pub others_in_lem : {q : ℕ} → Memᴰ q (others_in left) → (1 ≤ q) × (q < 8) × (get_or left q false ≡ true)
  unfolding others_in
  others_in_lem m =
      let r = select_mem (λ q. get_or left q false) (up_from 1 7) m in
      let b = up_from_mem 1 7 r.0 in
      let lo = b.0 in
      let hi = b.1 in
      (omega arith, omega arith, is_true r.1)

  in_others : {q : ℕ} → 1 ≤ q → q < 8 → get_or left q false ≡ true → Memᴰ q (others_in left)
  unfolding others_in
  in_others p l h = mem_select (λ q. get_or left q false) (mem_up_from 1 7 p (omega arith)) (of_true h)

  pub others_are : AreOthers (others_in left)
  unfolding others_in
  others_are = record {
    positive = λ q m e. (let r = (others_in_lem m).0 in omega arith);
    once = λ q. (let a = occurrences_select q (λ q. get_or left q false) (up_from 1 7) in let b = occurrences_up_from q 1 7 in omega arith);
  }

  others_few : length (others_in left) ≤ 7
  unfolding others_in
  others_few = let a = select_le (λ q. get_or left q false) (up_from 1 7) in let b = length_up_from 1 7 in omega arith

  module _ (root : get_or left 0 false ≡ true) where
    all_in : {p : ℕ} → Memᴰ p (0 ∷ others_in left) → (p < 8) × (get_or left p false ≡ true)
    all_in m = elim (Memᴰ.cases_cons m) [
      | inl e ↦ (omega arith, ap (λ x. get_or left x false) e ∙ root)
      | inr n ↦ ((others_in_lem n).1, (others_in_lem n).2)
    ]

    in_all : {p : ℕ} → p < 8 → get_or left p false ≡ true → Memᴰ p (0 ∷ others_in left)
    in_all {p} l h = elim (ℕ_discrete p 0) [ yes e ↦ Memᴰ.head e | no o ↦ Memᴰ.tail (in_others (omega arith) l h) ]

-- ---- bounds on costs

sum_within : (f : ℕ → ℤ) (vs : List ℕ) → ((q : ℕ) → Memᴰ q vs → (pos 0 ≤ℤ f q) × (f q ≤ℤ pos highest))
    → (pos 0 ≤ℤ sum_ofℤ (map f vs)) × (sum_ofℤ (map f vs) ≤ℤ pos (length vs * highest))
unfolding sum_ofℤ
sum_within f [] h = (≤ℤ_refl (pos 0), ≤ℤ_refl (pos 0))
sum_within f (q ∷ vs) h =
    let a = h q (Memᴰ.head refl) in
    let r = sum_within f vs (λ x m. h x (Memᴰ.tail m)) in
    let a0 = a.0 in
    let a1 = a.1 in
    let r0 = r.0 in
    let r1 = r.1 in
    (simp zl (omega (arith, z)), simp zl (omega (arith, z)))

-- What the contracted matrix m, l of a matrix w, left with the entries e has.
pub record Smaller (w : List ℤ) (left : List Bool) (e : List ℕ) (m : List ℤ) (l : List Bool) : Type 0 where
  pub matrix : IsCostMatrix m l
  pub fewer : length (others_in l) < length (others_in left)
  pub cost : (a : ℤ) → IsCheapest (others_in l) (matrix_of m) a
      → IsCheapest (others_in left) (matrix_of w) (tree_cost (matrix_of w) (others_in left) (entry_of e) +ℤ a)

module _ (w : List ℤ) (left : List Bool) (p : IsCostMatrix w left) where
  pub cost_within : (f : ℕ → ℕ) → ((q : ℕ) → Memᴰ q (others_in left) → Memᴰ (f q) (0 ∷ others_in left))
      → (pos 0 ≤ℤ tree_cost (matrix_of w) (others_in left) f) × (tree_cost (matrix_of w) (others_in left) f ≤ℤ pos 57801870)
  unfolding tree_cost
  cost_within f h =
      let r = sum_within (λ q. matrix_of w (f q) q) (others_in left) (λ q m.
      (let a = (all_in left p.root (h q m)).0 in let b = (others_in_lem left m).1 in
      (p.low (f q * 8 + q) (omega arith), p.high (f q * 8 + q) (omega arith)))) in
      let n = others_few left in
      let r1 = r.1 in
      (r.0, omega (arith, z))

  pub cheapest_within : (a : ℤ) → IsCheapest (others_in left) (matrix_of w) a → (pos 0 ≤ℤ a) × (a ≤ℤ pos 57801870)
  cheapest_within a h = subst (λ (x : ℤ). (pos 0 ≤ℤ x) × (x ≤ℤ pos 57801870)) h.attained (cost_within h.tree h.is_tree_holds.inside)

  -- ---- the entries

  module _ (e : List ℕ) (sized : length left ≡ 8) (h : HasEntries w left 8 e) where
    entry_facts : (q : ℕ) → Memᴰ q (others_in left) → (get_or e q 0 < 8) × (get_or left (get_or e q 0) false ≡ true) × (get_or e q 0 ≢ q)
    entry_facts q m =
        let r = others_in_lem left m in
        let l = r.1 in
        let b = h.best q r.0 l r.2 in
        let o : get_or e q 0 ≢ q =
        λ x. not_both b.allowed (ap (λ y. get_or (set left q false) y false) x ∙ get_or-set_same left q false false (omega arith)) in
        (b.in_range, sym (get_or-set_other left q (get_or e q 0) false false o) ∙ b.allowed, o)

    pub are_entries : AreEntries (others_in left) (matrix_of w) (entry_of e)
    unfolding place_of
    are_entries = record {
      inside = λ q m. (let f = entry_facts q m in in_all left p.root f.0 f.1);
      other = λ q m. (entry_facts q m).2;
      cheapest = λ s q m n o. (let a = all_in left p.root m in let r = others_in_lem left n in
          (h.best q r.0 r.1 r.2).cheapest s a.0 (get_or-set_other left q s false false o ∙ a.1));
    }

    -- no circle
    pub solve_tree : (y : ℕ) → IsLost left e 8 y → y ≡ 0
        → IsCheapest (others_in left) (matrix_of w) (tree_cost (matrix_of w) (others_in left) (entry_of e))
    solve_tree y k s =
        tree_of_entries (others_in left) (matrix_of w) (entry_of e) are_entries
        (entries_tree (others_in left) (entry_of e) (others_are left) h.root are_entries.inside 8
        (λ q m. (let r = others_in_lem left m in k.none s q r.0 r.1 r.2)))

    -- ---- what is left of the costs

    less_exact : (a m : ℤ) → m ≤ℤ a → less a m ≡ a -ℤ m
    unfolding less
    less_exact a m l = elim (test (lt_z a m)) [
      | inl t ↦ (let x : lt_z a m ≡ true = is_true {b = lt_z a m} t in absurd (omega (arith, z)))
      | inr t ↦ ap (λ b. cond b (pos 0) (a -ℤ m)) (is_false {b = lt_z a m} (λ u. T_not (lt_z a m) t u))
    ]

    module _ (v : List ℤ) (reduced : (i : ℕ) → i < 64 → get_or v i (pos 0) ≡ less (get_or w i (pos 0)) (pay_of w left e (i % 8))) where
      v_within : (i : ℕ) → i < 64 → (pos 0 ≤ℤ get_or v i (pos 0)) × (get_or v i (pos 0) ≤ℤ pos highest)
      v_within i l =
          let a = pay_within w left e p (i % 8) (omega arith) (h.in_range (i % 8) (omega arith)) in
          subst⁻¹ (λ (x : ℤ). (pos 0 ≤ℤ x) × (x ≤ℤ pos highest)) (reduced i l)
          (less_within (get_or w i (pos 0)) (pay_of w left e (i % 8)) (p.low i l) (p.high i l) a.0)

      is_reduced : IsReduced (others_in left) (matrix_of w) (entry_of e) (matrix_of v)
      is_reduced = record {
        reduced = λ s q m n o. (
            let a = (all_in left p.root m).0 in
            let r = others_in_lem left n in
            let l = r.1 in
            let x : (s * 8 + q) % 8 ≡ q = omega arith in
            let y : pay_of w left e q ≡ matrix_of w (entry_of e q) q = ap (λ b. cond b (get_or w (get_or e q 0 * 8 + q) (pos 0)) (pos 0))
            r.2 in
            reduced (s * 8 + q) (omega arith) ∙ ap (less (get_or w (s * 8 + q) (pos 0))) (ap (pay_of w left e) x ∙ y)
            ∙ less_exact (matrix_of w s q) (matrix_of w (entry_of e q) q) (are_entries.cheapest s q m n o));
      }

      free : (q : ℕ) → Memᴰ q (others_in left) → matrix_of v (entry_of e q) q ≡ pos 0
      free q m = is_reduced.reduced (entry_of e q) q (are_entries.inside q m) m (are_entries.other q m) ∙ simp zl (omega arith)

      nonneg : (s q : ℕ) → Memᴰ s (0 ∷ others_in left) → Memᴰ q (others_in left) → s ≢ q → pos 0 ≤ℤ matrix_of v s q
      nonneg s q m n o = let a = (all_in left p.root m).0 in let l = (others_in_lem left n).1 in (v_within (s * 8 + q) (omega arith)).0

      -- ---- the circle

      module _ (y : ℕ) (k : IsLost left e 8 y) (found : y ≢ 0) (on : List Bool) (marked : IsMarked e y 8 on) where
        abbrev cs : List ℕ
        cs = orbit (entry_of e) 8 y

        at_x : (x : ℕ) × Memᴰ x (others_in left) × (y ≡ iterate 8 (entry_of e) x)
        at_x = let r = k.some found in (r.0, in_others left r.1 r.2 r.3, r.4)

        circle_is : IsCircle (others_in left) (entry_of e) cs 16 × Memᴰ y cs
        circle_is =
            let r = at_x in
            let n = others_few left in
            let o : iterate 8 (entry_of e) r.0 ≢ 0 = λ s. found (r.2 ∙ s) in
            subst⁻¹ (λ y. IsCircle (others_in left) (entry_of e) (orbit (entry_of e) 8 y) 16 × Memᴰ y (orbit (entry_of e) 8 y)) r.2 (
              is_circle (others_in left) (entry_of e) (others_are left) h.root are_entries.inside 8 r.0 (omega arith) r.1 o,
              start_mem (others_in left) (entry_of e) (others_are left) h.root are_entries.inside 8 r.0 (omega arith) r.1 o,
            )

        on_mem : (x : ℕ) → get_or on x false ≡ true → Memᴰ x cs
        unfolding orbit
        on_mem x t = let r = marked.sound x t in
            subst⁻¹ (λ u. Memᴰ u (orbit (entry_of e) 8 y)) r.2 (mem_map (λ i. iterate i (entry_of e) y) (mem_below r.1))

        mem_on : (x : ℕ) → Memᴰ x cs → get_or on x false ≡ true
        unfolding orbit
        mem_on x m = let r = map_mem (λ i. iterate i (entry_of e) y) (below 8) m in
            ap (λ u. get_or on u false) r.2 ∙ marked.complete r.0 (below_mem r.1)

        on_is : (x : ℕ) → get_or on x false ≡ is_among x cs
        on_is x = same_test (get_or on x false) (is_among x cs) (λ t. among_of (on_mem x (is_true t)))
            (λ t. of_true (mem_on x (of_among x cs t)))

        cs_lt : {x : ℕ} → Memᴰ x cs → x < 8
        cs_lt {x} m = (others_in_lem left (circle_is.0.among x m)).1

        not_y : {q : ℕ} → (Memᴰ q cs → ⊥) → q ≢ y
        not_y n s = n (subst⁻¹ (λ u. Memᴰ u cs) s circle_is.1)

        module _ (m : List ℤ) (shrunk-to : IsShrunk v on y 64 m) (l : List Bool)
            (kept : (x : ℕ) → x < 8 → get_or l x false ≡ kept_of left on y x) where
          cell : (s t : ℕ) → s < 8 → t < 8 → (r : ℕ) × IsPlace v on y s t r × (matrix_of m s t ≡ get_or v r (pos 0))
          cell s t a b =
              let q = shrunk-to.each (s * 8 + t) (omega arith) in
              let x : (s * 8 + t) / 8 ≡ s = omega arith in
              let u : (s * 8 + t) % 8 ≡ t = omega arith in
              (q.0, subst (λ i. IsPlace v on y i t q.0) x (subst (λ i. IsPlace v on y ((s * 8 + t) / 8) i q.0) u q.1), q.2)

          contraction : IsContraction (others_in left) cs y (matrix_of v) (matrix_of m)
          unfolding place_of
          contraction = record {
            same = λ s t a b n o.
                (let c = cell s t (all_in left p.root a).0 (others_in_lem left b).1 in
                c.2 ∙ ap (λ i. get_or v i (pos 0)) (c.1.same (not_y o) (not_y n)));
            into = λ s a n. (let c = cell s y (all_in left p.root a).0 (cs_lt circle_is.1) in let r = c.1.into refl in record {
              at = r.0;
              member = on_mem r.0 r.1.allowed;
              attained = c.2 ∙ ap (λ i. get_or v i (pos 0)) r.2;
              least = λ q b. subst⁻¹ (λ (x : ℤ). x ≤ℤ matrix_of v s q) (c.2 ∙ ap (λ i. get_or v i (pos 0)) r.2)
                  (r.1.cheapest q (cs_lt b) (mem_on q b));
            });
            from = λ t b o. (let c = cell y t (cs_lt circle_is.1) (others_in_lem left b).1 in let r = c.1.from (not_y o) refl in record {
              at = r.0;
              member = on_mem r.0 r.1.allowed;
              attained = c.2 ∙ ap (λ i. get_or v i (pos 0)) r.2;
              least = λ s a. subst⁻¹ (λ (x : ℤ). x ≤ℤ matrix_of v s t) (c.2 ∙ ap (λ i. get_or v i (pos 0)) r.2)
                  (r.1.cheapest s (cs_lt a) (mem_on s a));
            });
          }

          others_shrunk : others_in l ≡ shrunk cs y (others_in left)
          unfolding others_in shrunk
          others_shrunk =
              select_select (λ q. get_or l q false) (λ q. get_or left q false) (λ q. not (is_among q cs) || eqb q y) (up_from 1 7)
              (λ q n. (let b = (up_from_mem 1 7 n).1 in kept q (omega arith)
              ∙ ap (λ b. get_or left q false && (not b || eqb q y)) (on_is q)))

          root_kept : get_or l 0 false ≡ true
          root_kept =
              let n : get_or on 0 false ≡ false =
              is_false (λ t. (others_are left).positive 0 (circle_is.0.among 0 (on_mem 0 (is_true t))) refl) in
              kept 0 (omega arith) ∙ ap₂ (λ a b. a && (not b || eqb 0 y)) p.root n

          pub smaller : Smaller w left e m l
          smaller = record {
            matrix = record {
              low = λ i b. (let q = shrunk-to.each i b in subst⁻¹ (λ (x : ℤ). pos 0 ≤ℤ x) q.2 (v_within q.0 q.1.in_range).0);
              high = λ i b.
                  (let q = shrunk-to.each i b in subst⁻¹ (λ (x : ℤ). x ≤ℤ pos highest) q.2 (v_within q.0 q.1.in_range).1);
              root = root_kept;
            };
            fewer = subst⁻¹ (λ (x : List ℕ). length x < length (others_in left)) others_shrunk
                (shrunk_fewer (others_in left) cs y 16 (entry_of e) circle_is.0 circle_is.1
                (are_entries.other y (circle_is.0.among y circle_is.1)));
            cost = λ a c. pay_entries (others_in left) (matrix_of w) (matrix_of v) (entry_of e) a is_reduced
                (shrink_circle (others_in left) cs y 16 (entry_of e) (matrix_of v) (matrix_of m) (others_are left) circle_is.0
                circle_is.1 free nonneg contraction a
                (subst (λ (x : List ℕ). IsCheapest x (matrix_of m) a) others_shrunk c));
          }
