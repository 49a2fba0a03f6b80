-- The arrays' least offers are the plan's matrix over pairs: each pair offers its reduced cost to the entry of its
-- components, and each two components have a pair.
use Rattle.std.specs.Prelude.{◌≡◌, ◌⊎◌, ◌≢◌, Bool, true, false, ◌&&◌, length, set, replicate, ltb, ℤ, ◌+ℤ◌, ◌-ℤ◌, ◌≤ℤ◌}
use Rattle.std.proofs.Math.Path.{refl, sym, ap, subst⁻¹}
use Rattle.std.proofs.Common.{ap₂, ◌∙◌, subst, inl, inr, get_or-set_same, get_or-set_other}
use Rattle.std.proofs.Math.Bool.{cond}
use mathlib.Core.List.{List, [], ◌∷◌, Memᴰ}
use Prim.Native.Nat.{ℕ, zero, suc, ◌+◌, ◌*◌, ◌-◌, ◌/◌, ◌%◌, ◌≤◌, ◌<◌}
use Rattle.std.proofs.Math.Decide.{ℕ_discrete, dec_lt}
use native.Mathlib.Omega.{arith}
use Rattle.std.proofs.Math.ListN.{get_or}
use Rattle.std.proofs.lemmas.List.{get_or-replicate}
use Rattle.std.proofs.Math.IntN.{pos}
use Rattle.std.specs.Int.Signed.{≤ℤ_refl}
use borrow.Author.Tests.{lt-ltb, le-ltb}
use Rattle.postman_laws.specs.Laws.Contradiction.{zero_is_one}
use Rattle.integers.specs.Linear.{z}
use Rattle.postman.specs.Lists.{select, up_from}
use Rattle.postman.specs.Plan.{Plan, WellFormed}
use Rattle.postman.specs.Required.{required}
use Rattle.postman.specs.Component.{component_count, lowest}
use Rattle.postman.specs.LagrangianBound.{reduced_cost, cheapest_arborescence}
use Rattle.postman.specs.Steps.{Feasible}
use Rattle.postman.specs.Laws.Membership.{up_from_mem}
use Rattle.postman_laws.specs.Laws.Distance.{bounded}
use Rattle.postman_laws.specs.Laws.Required.{required_below}
use Rattle.postman_laws.specs.Laws.Component.{component_at}
use Rattle.postman_laws.specs.Laws.SignedSum.{≤ℤ-trans, ≤ℤ-antisym}
use Rattle.cheapest_tree.specs.Cheapest.{IsCheapest}
use Rattle.pair_costs.specs.Pairs.{IsPair, IsPairMatrix, others_of}
use Rattle.cheapest_tree.specs.CostMatrix.{matrix_of, others_in, highest, IsCostMatrix}
use Rattle.pair_costs.specs.PairCosts.{cost_of, are_required, offer_of, entry_for, ArePairCosts, IsLesser, AreLeastOffers, HoldsNetwork, multipliers_in}
use Rattle.pair_costs.specs.Laws.Pairs.{pairs_links}

both_true : (a b : Bool) → a && b ≡ true → (a ≡ true) × (b ≡ true)
both_true true true e = (refl, refl)
both_true true false e = zero_is_one (cc)
both_true false b e = zero_is_one (cc)

either : (b : Bool) → (b ≡ true) ⊎ (b ≡ false)
either true = inl refl
either false = inr refl

module _ (d : List (List ℕ)) (u : List ℤ) (c : List ℕ) (r : List Bool) (ok : ArePairCosts d u c r) where
  -- ---- one pair more

  offer_within : (i j : ℕ) → i < 64 → j < 64 → (pos 0 ≤ℤ offer_of d u r i j) × (offer_of d u r i j ≤ℤ pos highest)
  offer_within i j a b = elim (either (are_required r i j)) [
    | inl t ↦
        let e = both_true (get_or r i false) (get_or r j false) t in
        subst⁻¹ (λ x. (pos 0 ≤ℤ cond x (cost_of d u i j) (pos highest)) × (cond x (cost_of d u i j) (pos highest) ≤ℤ pos highest)) t
        (ok.low i j a b e.0 e.1, ok.high i j a b e.0 e.1)
    | inr f ↦ subst⁻¹ (λ x. (pos 0 ≤ℤ cond x (cost_of d u i j) (pos highest)) × (cond x (cost_of d u i j) (pos highest) ≤ℤ pos highest)) f
        (omega (arith, z), ≤ℤ_refl (pos highest))
  ]

  module _ (n : ℕ) (bound : n < 4096) (m : List ℤ) (h : AreLeastOffers d u c r n m) (x : ℕ) (sized : length m ≡ 64) (l : x < 64)
      (e : x ≡ entry_for c r (n / 64) (n % 64)) (v : ℤ)
      (k : IsLesser (get_or m x (pos 0)) (offer_of d u r (n / 64) (n % 64)) v) where
    abbrev m' : List ℤ
    m' = set m x v

    at_x : get_or m' x (pos 0) ≡ v
    at_x = get_or-set_same m x v (pos 0) (omega arith)

    at_other : (y : ℕ) → y ≢ x → get_or m' y (pos 0) ≡ get_or m y (pos 0)
    at_other y o = get_or-set_other m x y v (pos 0) o

    -- no entry rises
    falls : (y : ℕ) → get_or m' y (pos 0) ≤ℤ get_or m y (pos 0)
    falls y = elim (ℕ_discrete y x) [
      | yes s ↦ subst⁻¹ (λ y. get_or m' y (pos 0) ≤ℤ get_or m y (pos 0)) s (subst⁻¹ (λ (a : ℤ). a ≤ℤ get_or m x (pos 0)) at_x k.first)
      | no o ↦ subst⁻¹ (λ (a : ℤ). a ≤ℤ get_or m y (pos 0)) (at_other y o) (≤ℤ_refl (get_or m y (pos 0)))
    ]

    v_low : pos 0 ≤ℤ v
    v_low = elim k.one [
      | inl s ↦ subst⁻¹ (λ (a : ℤ). pos 0 ≤ℤ a) s (h.low x l)
      | inr s ↦ subst⁻¹ (λ (a : ℤ). pos 0 ≤ℤ a) s (offer_within (n / 64) (n % 64) (omega arith) (omega arith)).0
    ]

    abbrev Source : ℕ → List ℤ → ℕ → Type 0
    Source b w y =
        (l : ℕ) × (l < b) × (are_required r (l / 64) (l % 64) ≡ true) × (y ≡ entry_for c r (l / 64) (l % 64))
        × (get_or w y (pos 0) ≡ cost_of d u (l / 64) (l % 64))

    older : (y : ℕ) → y < 64 → get_or m' y (pos 0) ≡ get_or m y (pos 0) → (get_or m' y (pos 0) ≡ pos highest) ⊎ Source (n + 1) m' y
    older y b s = elim (h.attained y b) [
      | inl f ↦ inl (s ∙ f)
      | inr f ↦ let g = f.1 in inr (f.0, omega arith, f.2, f.3, s ∙ f.4)
    ]

    newer : (get_or m' x (pos 0) ≡ pos highest) ⊎ Source (n + 1) m' x
    newer = elim k.one [
      | inl s ↦ older x l (at_x ∙ s)
      | inr s ↦ elim (either (are_required r (n / 64) (n % 64))) [
        | inl t ↦ inr (n, omega arith, t, e, at_x ∙ s ∙ ap (λ b. cond b (cost_of d u (n / 64) (n % 64)) (pos highest)) t)
        | inr f ↦ inl (at_x ∙ s ∙ ap (λ b. cond b (cost_of d u (n / 64) (n % 64)) (pos highest)) f)
      ]
    ]

    pub offers_more : AreLeastOffers d u c r (n + 1) m'
    offers_more = record {
      low = λ y b. elim (ℕ_discrete y x) [
        | yes s ↦ subst⁻¹ (λ y. pos 0 ≤ℤ get_or m' y (pos 0)) s (subst⁻¹ (λ (a : ℤ). pos 0 ≤ℤ a) at_x v_low)
        | no o ↦ subst⁻¹ (λ (a : ℤ). pos 0 ≤ℤ a) (at_other y o) (h.low y b)
      ];
      high = λ y b. ≤ℤ-trans (falls y) (h.high y b);
      least = λ i b t. elim (ℕ_discrete i n) [
        | yes s ↦ subst⁻¹ (λ i. get_or m' (entry_for c r (i / 64) (i % 64)) (pos 0) ≤ℤ cost_of d u (i / 64) (i % 64)) s
            (subst (λ y. get_or m' y (pos 0) ≤ℤ cost_of d u (n / 64) (n % 64)) e
            (subst⁻¹ (λ (a : ℤ). a ≤ℤ cost_of d u (n / 64) (n % 64)) at_x
            (subst (λ (a : ℤ). v ≤ℤ a)
            (ap (λ b. cond b (cost_of d u (n / 64) (n % 64)) (pos highest)) (ap (λ i. are_required r (i / 64) (i % 64)) (sym s) ∙ t))
            k.second)))
        | no o ↦ ≤ℤ-trans (falls (entry_for c r (i / 64) (i % 64))) (h.least i (omega arith) t)
      ];
      attained = λ y b. elim (ℕ_discrete y x) [
        | yes s ↦ subst⁻¹ (λ y. (get_or m' y (pos 0) ≡ pos highest) ⊎ Source (n + 1) m' y) s newer
        | no o ↦ older y b (at_other y o)
      ];
    }

  -- a pair that is required offers its reduced cost, and another offers nothing
  module _ (n : ℕ) (bound : n < 4096) (m : List ℤ) (h : AreLeastOffers d u c r n m) where
    pub offers_taken : are_required r (n / 64) (n % 64) ≡ true → length m ≡ 64 → (x : ℕ) → x < 64
        → x ≡ get_or c (n / 64) 0 * 8 + get_or c (n % 64) 0 → (v : ℤ)
        → IsLesser (get_or m x (pos 0)) (cost_of d u (n / 64) (n % 64)) v → AreLeastOffers d u c r (n + 1) (set m x v)
    offers_taken t sized x l e v k =
        offers_more n bound m h x sized l (e ∙ sym (ap (λ b. cond b (get_or c (n / 64) 0 * 8 + get_or c (n % 64) 0) 0) t)) v
        (subst⁻¹ (λ (a : ℤ). IsLesser (get_or m x (pos 0)) a v) (ap (λ b. cond b (cost_of d u (n / 64) (n % 64)) (pos highest)) t) k)

    pub offers_passed : are_required r (n / 64) (n % 64) ≡ false → AreLeastOffers d u c r (n + 1) m
    offers_passed f = record {
      low = h.low;
      high = h.high;
      least = λ i b t. elim (ℕ_discrete i n) [
        | yes s ↦ let g = sym t ∙ ap (λ i. are_required r (i / 64) (i % 64)) s ∙ f in zero_is_one (cc)
        | no o ↦ h.least i (omega arith) t
      ];
      attained = λ y b. elim (h.attained y b) [ inl g ↦ inl g | inr g ↦ let a = g.1 in inr (g.0, omega arith, g.2, g.3, g.4) ];
    }

  -- ---- the plan's matrix

  module _ (p : Plan) (wf : WellFormed p) (k : ℕ) (few : k ≤ 8) (net : HoldsNetwork p d c r k) (m : List ℤ)
      (h : AreLeastOffers d u c r 4096 m) where
    pair_cost : (i j : ℕ) → Memᴰ i (required p) → Memᴰ j (required p) → cost_of d u i j ≡ reduced_cost p (multipliers_in u) i j
    unfolding reduced_cost
    pair_cost i j a b = ap (λ n. pos n -ℤ get_or u i (pos 0) +ℤ get_or u j (pos 0)) (net.distances i j a b)

    entry_of : (i j : ℕ) → are_required r i j ≡ true → entry_for c r i j ≡ get_or c i 0 * 8 + get_or c j 0
    entry_of i j t = ap (λ b. cond b (get_or c i 0 * 8 + get_or c j 0) 0) t

    both_required : (i j : ℕ) → Memᴰ i (required p) → Memᴰ j (required p) → are_required r i j ≡ true
    both_required i j a b = ap₂ ◌&&◌ (net.required_is i a) (net.required_is j b)

    pair_least : (s t i j : ℕ) → IsPair p s t i j → matrix_of m s t ≤ℤ cost_of d u i j
    pair_least s t i j q =
        let a = required_below p wf q.tail in
        let b = required_below p wf q.head in
        let x : (i * 64 + j) / 64 ≡ i = omega arith in
        let y : (i * 64 + j) % 64 ≡ j = omega arith in
        let t₀ = both_required i j q.tail q.head in
        let e : entry_for c r i j ≡ s * 8 + t =
        entry_of i j t₀ ∙ ap₂ (λ a b. a * 8 + b) (net.component_of i q.tail ∙ q.from) (net.component_of j q.head ∙ q.to) in
        let f : are_required r ((i * 64 + j) / 64) ((i * 64 + j) % 64) ≡ true = ap₂ (are_required r) x y ∙ t₀ in
        let g = h.least (i * 64 + j) (omega arith) f in
        subst (λ n. get_or m n (pos 0) ≤ℤ cost_of d u i j) e
        (subst (λ n. get_or m (entry_for c r i n) (pos 0) ≤ℤ cost_of d u i n) y
        (subst (λ n. get_or m (entry_for c r n ((i * 64 + j) % 64)) (pos 0) ≤ℤ cost_of d u n ((i * 64 + j) % 64)) x g))

    pub pair_matrix : IsPairMatrix p (multipliers_in u) (matrix_of m)
    pair_matrix = record {
      attained = λ s t a b o. attained s t a b;
      least = λ s t i j q o. subst (λ (a : ℤ). matrix_of m s t ≤ℤ a) (pair_cost i j q.tail q.head) (pair_least s t i j q);
    }
      where
        attained : (s t : ℕ) → s < component_count p → t < component_count p
            → (i : ℕ) × (j : ℕ) × IsPair p s t i j × (matrix_of m s t ≡ reduced_cost p (multipliers_in u) i j)
        attained s t a b =
            let n = net.components in
            elim (h.attained (s * 8 + t) (omega arith)) [
              | inr f ↦
                  let i = f.0 / 64 in
                  let j = f.0 % 64 in
                  let l = f.1 in
                  let q = both_true (get_or r i false) (get_or r j false) f.2 in
                  let x = ok.in_range i (omega arith) q.0 in
                  let y = ok.in_range j (omega arith) q.1 in
                  let e = f.3 ∙ entry_of i j f.2 in
                  let mi = net.is_required_holds i q.0 in
                  let mj = net.is_required_holds j q.1 in
                  let ci = net.component_of i mi in
                  let cj = net.component_of j mj in
                  (i, j, record { tail = mi; head = mj; from = omega arith; to = omega arith }, f.4 ∙ pair_cost i j mi mj)
              | inl f ↦
                  let v = component_at p (bounded wf).ends s a in
                  let w = component_at p (bounded wf).ends t b in
                  let i = get_or (lowest p) s 0 in
                  let j = get_or (lowest p) t 0 in
                  let q : IsPair p s t i j = record { tail = v.0; head = w.0; from = v.1; to = w.1 } in
                  let g = pair_least s t i j q in
                  let z = ok.high i j (required_below p wf v.0) (required_below p wf w.0) (net.required_is i v.0)
                  (net.required_is j w.0) in
                  (i, j, q, ≤ℤ-antisym g (subst⁻¹ (λ (a : ℤ). cost_of d u i j ≤ℤ a) f z) ∙ pair_cost i j v.0 w.0)
            ]

    -- ---- the components there are

    select_below : (f : ℕ → Bool) (b a n : ℕ) → a ≤ b → b ≤ a + n → ((q : ℕ) → Memᴰ q (up_from a n) → f q ≡ ltb q b)
        → select f (up_from a n) ≡ up_from a (b - a)
    unfolding select up_from
    select_below f b a zero l g e = let s : b - a ≡ 0 = omega arith in sym (ap (up_from a) s)
    select_below f b a (suc n) l g e = elim (dec_lt a b) [
      | yes t ↦
          let s : b - a ≡ suc (b - suc a) = omega arith in
          ap (λ x. cond x (a ∷ select f (up_from (suc a) n)) (select f (up_from (suc a) n))) (e a (Memᴰ.head refl) ∙ lt-ltb a b t)
          ∙ ap (λ (x : List ℕ). a ∷ x) (select_below f b (suc a) n t (omega arith) (λ q i. e q (Memᴰ.tail i))) ∙ sym (ap (up_from a) s)
      | no t ↦
          let s : b - a ≡ 0 = omega arith in
          ap (λ x. cond x (a ∷ select f (up_from (suc a) n)) (select f (up_from (suc a) n)))
          (e a (Memᴰ.head refl) ∙ le-ltb a b (omega arith))
          ∙ none f (up_from (suc a) n) (λ q i. e q (Memᴰ.tail i) ∙ le-ltb q b (let u = (up_from_mem (suc a) n i).0 in omega arith))
          ∙ sym (ap (up_from a) s)
    ]
      where
        none : (f : ℕ → Bool) (xs : List ℕ) → ((q : ℕ) → Memᴰ q xs → f q ≡ false) → select f xs ≡ []
        none f [] e = refl
        none f (x ∷ xs) e =
            ap (λ b. cond b (x ∷ select f xs) (select f xs)) (e x (Memᴰ.head refl)) ∙ none f xs (λ q i. e q (Memᴰ.tail i))

    module _ (some : 1 ≤ k) (left : List Bool) (all : (q : ℕ) → q < 8 → get_or left q false ≡ ltb q k) where
      others_same : others_in left ≡ others_of p
      unfolding others_in others_of
      others_same =
          let n = net.components in
          select_below (λ q. get_or left q false) k 1 7 some (omega arith) (λ q i. (let b = (up_from_mem 1 7 i).1 in all q (omega arith)))
          ∙ ap (λ k. up_from 1 (k - 1)) n

      pub answer : (a : ℤ) → Feasible p (multipliers_in u) → IsCheapest (others_in left) (matrix_of m) a
          → a ≡ cheapest_arborescence p (multipliers_in u)
      answer a f q = let n = net.components in
          pairs_links p wf (omega arith) (multipliers_in u) (matrix_of m) pair_matrix f a
          (subst (λ (x : List ℕ). IsCheapest x (matrix_of m) a) others_same q)

  pub first_matrix : (k : ℕ) → 1 ≤ k → (m : List ℤ) → AreLeastOffers d u c r 4096 m → (left : List Bool)
      → ((q : ℕ) → q < 8 → get_or left q false ≡ ltb q k) → IsCostMatrix m left
  first_matrix k some m h left all = record { low = h.low; high = h.high; root = all 0 (omega arith) ∙ lt-ltb 0 k some }

-- before any pair nothing is offered
pub offers_none : (d : List (List ℕ)) (u : List ℤ) (c : List ℕ) (r : List Bool) → AreLeastOffers d u c r 0 (replicate 64 (pos highest))
offers_none d u c r = record {
  low = λ x b. subst⁻¹ (λ (a : ℤ). pos 0 ≤ℤ a) (get_or-replicate 64 x (pos highest) (pos 0) b) (omega (arith, z));
  high = λ x b. subst⁻¹ (λ (a : ℤ). a ≤ℤ pos highest) (get_or-replicate 64 x (pos highest) (pos 0) b) (≤ℤ_refl (pos highest));
  least = λ l b. absurd (omega arith);
  attained = λ x b. inl (get_or-replicate 64 x (pos highest) (pos 0) b);
}
