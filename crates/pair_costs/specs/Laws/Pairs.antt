-- The least over pairs is the least over links. An arborescence of links is a tree of components that costs no less than the matrix says.
-- Conversely each entry of a tree is a pair, and the pair a chain of links of the same reduced cost; the links of all these chains hold an
-- arborescence: grow the set of components reached from component 0, since the chain into a component that is not reached, from one that
-- is, has a link that leaves the set. What is left of the links costs nothing or more.
use Rattle.std.specs.Prelude.{◌≡◌, ◌⊎◌, ◌≢◌, cond, length, eqb, ◌+ℤ◌, ◌-ℤ◌, ◌≤ℤ◌}
use Rattle.std.proofs.Math.Path.{refl, sym, ap, ap₂, subst, subst⁻¹}
use Rattle.std.proofs.Common.{◌∙◌, le_refl, one-add, eqb→eq, T_not}
use Rattle.std.proofs.Math.Logic.{inl, inr}
use mathlib.Core.List.{List, [], ◌∷◌, map, flat_map, Memᴰ, map-map}
use Prim.Native.Nat.{ℕ, zero, suc, ◌-◌, ◌≤◌, ◌<◌}
use Rattle.std.proofs.Math.Decide.{ℕ_discrete}
use native.Mathlib.Omega.{arith}
use Rattle.std.proofs.Math.ListN.{length-map}
use Rattle.std.proofs.Math.Dec.{eqb_refl}
use Rattle.std.proofs.Math.IntN.{ℤ, pos}
use Rattle.integers.specs.Linear.{z, zl}
use Rattle.postman.specs.Lists.{up_from, below, iterate, sum_ofℤ}
use Rattle.postman.specs.Plan.{Plan, WellFormed}
use Rattle.postman.specs.Link.{Link, links}
use Rattle.postman.specs.Component.{component, component_count}
use Rattle.postman.specs.Arborescence.{link_at, parent, Enters, IsArborescence, arborescences}
use Rattle.postman.specs.LagrangianBound.{Multipliers, reduced_cost, reduced_sum, cheapest_arborescence}
use Rattle.postman.specs.Laws.Tests.{cond_ind}
use Rattle.postman.specs.Laws.Membership.{mem_up_from, up_from_mem, length_up_from, get_d_map_up_from, mem_flat_map, flat_map_mem, mem_get_d}
use Rattle.postman_laws.specs.Laws.Pick.{pick_of_mem, pick_length, pick_cases, left_mem}
use Rattle.postman_laws.specs.Laws.Occurrences.{mem?, occurrences_up_from}
use Rattle.postman_laws.specs.Laws.Distance.{InPlan, bounded}
use Rattle.postman_laws.specs.Laws.Component.{component_lt}
use Rattle.postman_laws.specs.Laws.Link.{IsChain, chain_cost, chain, link_ends}
use Rattle.postman_laws.specs.Laws.LinkLegs.{Without, done, next, extract}
use Rattle.postman_laws.specs.Laws.Iteration.{settle}
use Rattle.postman_laws.specs.Laws.Arborescence.{arborescences_mem, mem_arborescences}
use Rattle.postman_laws.specs.Laws.SignedSum.{≤ℤ-trans, ≤ℤ-antisym, sum_append, sum_nonneg, sum_pick}
use Rattle.postman.specs.Steps.{Feasible, no_link}
use Rattle.postman_laws.specs.Laws.LagrangianBound.{cheapest_le, cheapest_at}
use Rattle.cheapest_tree.specs.Cheapest.{Matrix, AreOthers, IsRootedTree, tree_cost, IsCheapest}
use Rattle.pair_costs.specs.Pairs.{IsPairMatrix, others_of}
use Rattle.postman_laws.specs.Laws.Lists.{by_place}
use Rattle.cheapest_tree.specs.Laws.Iterates.{steps_to, steps_fall}
use Rattle.cheapest_tree.specs.Laws.Edmonds.{sum_mono, parent_other}

-- ---- one more value of a function

update : {A : Type 0} → (ℕ → A) → ℕ → A → ℕ → A
update f i y x = cond (eqb x i) y (f x)

update_at : {A : Type 0} (f : ℕ → A) (i : ℕ) (y : A) → update f i y i ≡ y
unfolding update
update_at f i y = cond_ind (eqb i i) y (f i) (λ z. z ≡ y) (λ t. refl) (λ t. absurd (T_not (eqb i i) t (eqb_refl i)))

update_other : {A : Type 0} (f : ℕ → A) (i : ℕ) (y : A) (x : ℕ) → x ≢ i → update f i y x ≡ f x
unfolding update
update_other f i y x n = cond_ind (eqb x i) y (f x) (λ z. z ≡ f x) (λ t. absurd (n (eqb→eq x i t))) (λ t. refl)

-- a rank that falls leads to 0
pub rank_arrives : (P : ℕ → Type 0) (f rank : ℕ → ℕ) → ((q : ℕ) → P q → q ≢ 0 → P (f q)) → ((q : ℕ) → P q → q ≢ 0 → rank (f q) < rank q)
    → (n q : ℕ) → rank q < n → P q → (m : ℕ) × (iterate m f q ≡ 0)
unfolding iterate
rank_arrives P f rank i h zero q l m = absurd (omega arith)
rank_arrives P f rank i h (suc n) q l m = elim (ℕ_discrete q 0) [
  | yes e ↦ (0, e)
  | no o ↦ let b = h q m o in let r = rank_arrives P f rank i h n (f q) (omega arith) (i q m o) in (suc r.0, r.1)
]

-- ---- sums

sum_flat_map : {A : Type 0} (u : A → ℤ) (h : ℕ → List A) (vs : List ℕ)
    → sum_ofℤ (map u (flat_map h vs)) ≡ sum_ofℤ (map (λ q. sum_ofℤ (map u (h q))) vs)
unfolding flat_map sum_ofℤ
sum_flat_map u h [] = refl
sum_flat_map u h (q ∷ vs) = sum_append u (h q) (flat_map h vs) ∙ ap (λ (x : ℤ). sum_ofℤ (map u (h q)) +ℤ x) (sum_flat_map u h vs)

without_sum : (u : Link → ℤ) {xs ls rest : List Link} → Without xs ls rest → sum_ofℤ (map u ls) ≡ sum_ofℤ (map u xs) +ℤ sum_ofℤ (map u rest)
unfolding sum_ofℤ
without_sum u done = simp zl (omega arith)
without_sum u (next q s) = let h = without_sum u s in let k = sum_pick u q in rw (k, h) (simp zl (omega arith))

without_mem : {x : Link} {xs ls rest : List Link} → Without xs ls rest → Memᴰ x rest → Memᴰ x ls
without_mem done m = m
without_mem (next q s) m = left_mem q (without_mem s m)

up_from_suc : (a n : ℕ) → up_from (suc a) n ≡ map suc (up_from a n)
unfolding up_from
up_from_suc a zero = refl
up_from_suc a (suc n) = ap (λ (l : List ℕ). suc a ∷ l) (up_from_suc (suc a) n)

module _ (p : Plan) where
  abbrev k : ℕ
  k = component_count p

  abbrev vs : List ℕ
  vs = others_of p

  others_lt : {q : ℕ} → Memᴰ q vs → (1 ≤ q) × (q < k)
  unfolding others_of
  others_lt m = let r = up_from_mem 1 (k - 1) m in let a = r.0 in let b = r.1 in (omega arith, omega arith)

  mem_others : {q : ℕ} → 1 ≤ q → q < k → Memᴰ q vs
  unfolding others_of
  mem_others {q} a b = mem_up_from 1 (k - 1) a (omega arith)

  mem_all : {q : ℕ} → q < k → Memᴰ q (0 ∷ vs)
  mem_all {q} l = elim (ℕ_discrete q 0) [
    | yes e ↦ mathlib.Core.List.Memᴰ.head e
    | no o ↦ mathlib.Core.List.Memᴰ.tail
        (mem_others (omega arith) l)
  ]

  all_lt : 1 ≤ k → {q : ℕ} → Memᴰ q (0 ∷ vs) → q < k
  all_lt s m = elim (mathlib.Core.List.Memᴰ.cases_cons m) [ inl e ↦ (omega arith) | inr n ↦ (others_lt n).1 ]

  pub others_are : AreOthers vs
  unfolding others_of
  others_are = record { positive = λ q m. (let r = (others_lt m).0 in omega arith); once = λ q. occurrences_up_from q 1 (k - 1) }

  module _ (u : Multipliers) (w : Matrix) (is : IsPairMatrix p u w) where
    abbrev reduced : Link → ℤ
    reduced l = reduced_cost p u l.tail l.head

    -- ---- an arborescence of links is a tree that costs no less

    module _ (ok : InPlan p) (t : List Link) (a : IsArborescence p t) where
      parent_in : (q : ℕ) → q < k → parent p t q < k
      unfolding parent
      parent_in zero l = l
      parent_in (suc q) l = let n = a.size in component_lt p ok (link_ends p (a.enters q (omega arith)).is_link_holds).0

      arborescence_tree : IsRootedTree vs (parent p t)
      unfolding parent
      arborescence_tree = record {
        inside = λ q m. mem_all (parent_in q (others_lt m).1);
        rank = steps_to (parent p t) 0 (suc k);
        falls = λ q m. (let l = others_lt m in let h = l.0 in let b = a.back q l.1 in
            steps_fall (parent p t) 0 (suc k) q k (omega arith) (settle k (parent p t) parent_in b.0 q refl l.1 b.1)
            (λ e. (omega arith)));
      }

      link_ge : (q : ℕ) → q < k - 1 → w (parent p t (suc q)) (suc q) ≤ℤ reduced (link_at t q)
      unfolding parent
      link_ge q l =
          let n = a.size in
          let e = a.enters q (omega arith) in
          let m = link_ends p e.is_link_holds in
          is.least (component p (link_at t q).tail) (suc q) (link_at t q).tail (link_at t q).head
          (record { tail = m.0; head = m.1; from = refl; to = e.head }) e.tail

      arborescence_cost : tree_cost w vs (parent p t) ≤ℤ reduced_sum p u t
      unfolding tree_cost reduced_sum others_of below
      arborescence_cost =
          let n = a.size in
          let f : ℕ → ℤ = λ q. w (parent p t (suc q)) (suc q) in
          let g : ℕ → ℤ = λ q. reduced (link_at t q) in
          let l : sum_ofℤ (map (λ q. w (parent p t q) q) (up_from 1 (k - 1))) ≡ sum_ofℤ (map f (up_from 0 (k - 1))) =
          ap (λ (x : List ℕ). sum_ofℤ (map (λ q. w (parent p t q) q) x)) (up_from_suc 0 (k - 1))
          ∙ ap sum_ofℤ (map-map (λ q. w (parent p t q) q) suc (up_from 0 (k - 1))) in
          let r : sum_ofℤ (map g (up_from 0 (k - 1))) ≡ sum_ofℤ (map reduced t) =
          ap (λ m. sum_ofℤ (map g (up_from 0 m))) (sym n) ∙ ap sum_ofℤ (sym (map-map reduced (λ q. link_at t q) (up_from 0 (length t))))
          ∙ ap (λ (x : List Link). sum_ofℤ (map reduced x)) (by_place no_link t) in
          subst⁻¹ (λ (x : ℤ). x ≤ℤ sum_ofℤ (map reduced t)) l (subst (λ (x : ℤ). sum_ofℤ (map f (up_from 0 (k - 1))) ≤ℤ x) r
          (sum_mono f g (up_from 0 (k - 1)) (λ q m. (let b = (up_from_mem 0 (k - 1) m).1 in link_ge q (omega arith)))))

    -- ---- a tree gives an arborescence of links that costs no more

    module _ (ok : WellFormed p) (feasible : Feasible p u) (some : 1 ≤ k) (up : ℕ → ℕ) (t : IsRootedTree vs up) where
      ends : InPlan p
      ends = (bounded ok).ends

      chain_reduced : (i j : ℕ) (ls : List Link) → IsChain p i ls j → sum_ofℤ (map reduced ls) ≡ pos (chain_cost p ls) -ℤ u i +ℤ u j
      unfolding sum_ofℤ reduced_cost
      chain_reduced i j [] e = let h = ap u e in simp zl (omega (arith, z))
      chain_reduced i j (l ∷ ls) h =
          let r = chain_reduced l.head j ls h.2 in
          let e = ap u h.0 in
          rw r (simp zl (omega (arith, z, simp zl at e)))

      -- the chain of the pair that enters component q
      record IsLeg (q : ℕ) (ls : List Link) : Type 0 where
        pub tail : ℕ
        pub head : ℕ
        pub chained : IsChain p tail ls head
        pub from : component p tail ≡ up q
        pub to : component p head ≡ q
        pub cost : sum_ofℤ (map reduced ls) ≡ w (up q) q

      leg_at : (q : ℕ) → Memᴰ q vs → (ls : List Link) × IsLeg q ls
      unfolding reduced_cost
      leg_at q m =
          let r = is.attained (up q) q (all_lt some (t.inside q m)) (others_lt m).1 (parent_other t q m) in
          let s = chain p ok r.0 r.1 r.2.tail r.2.head in (
            s.0,
            record {
              tail = r.0;
              head = r.1;
              chained = s.1;
              from = r.2.from;
              to = r.2.to;
              cost = chain_reduced r.0 r.1 s.0 s.1 ∙ ap (λ (n : ℕ). pos n -ℤ u r.0 +ℤ u r.1) s.2 ∙ sym r.3;
            },
          )

      leg : (q : ℕ) → (ls : List Link) × (Memᴰ q vs → IsLeg q ls)
      leg q = elim (mem? q vs) [
        | inl m ↦ let r = leg_at q m in (r.0, λ n. r.1)
        | inr n ↦ ([], λ m. absurd (n m))
      ]

      bundle : List Link
      bundle = flat_map (λ q. (leg q).0) vs

      bundle_cost : sum_ofℤ (map reduced bundle) ≡ tree_cost w vs up
      unfolding bundle tree_cost
      bundle_cost = sum_flat_map reduced (λ q. (leg q).0) vs ∙ ap sum_ofℤ (map_legs vs (λ q m. m))
        where
          map_legs : (qs : List ℕ) → ((q : ℕ) → Memᴰ q qs → Memᴰ q vs)
              → map (λ q. sum_ofℤ (map reduced (leg q).0)) qs ≡ map (λ q. w (up q) q) qs
          map_legs [] h = refl
          map_legs (q ∷ qs) h = ap₂ ◌∷◌ ((leg q).1 (h q (mathlib.Core.List.Memᴰ.head refl))).cost
              (map_legs qs (λ x m. h x (mathlib.Core.List.Memᴰ.tail m)))

      chain_links : (i j : ℕ) (ls : List Link) → IsChain p i ls j → (l : Link) → Memᴰ l ls → Memᴰ l (links p)
      chain_links i j [] h l m = elim m [ ]
      chain_links i j (x ∷ ls) h l m = elim (mathlib.Core.List.Memᴰ.cases_cons m) [
        | inl e ↦ subst⁻¹ (λ (y : Link). Memᴰ y (links p)) e h.1
        | inr n ↦ chain_links x.head j ls h.2 l n
      ]

      bundle_links : {l : Link} → Memᴰ l bundle → Memᴰ l (links p)
      unfolding bundle
      bundle_links {l} m =
          let r = flat_map_mem (λ q. (leg q).0) vs m in
          let s = (leg r.0).1 r.1 in
          chain_links s.tail s.head (leg r.0).0 s.chained l r.2

      -- ---- growing

      -- a link that leaves the set of components qs
      abbrev Leaves : List ℕ → Link → Type 0
      Leaves qs l = Memᴰ (component p l.tail) qs × (Memᴰ (component p l.head) qs → ⊥)

      crossing : (qs : List ℕ) (i j : ℕ) (ls : List Link) → IsChain p i ls j → Memᴰ (component p i) qs
          → (Memᴰ (component p j) qs → ⊥) → (l : Link) × Memᴰ l ls × Leaves qs l
      crossing qs i j [] h m n = absurd (n (subst (λ x. Memᴰ (component p x) qs) h m))
      crossing qs i j (l ∷ ls) h m n = elim (mem? (component p l.head) qs) [
        | inl g ↦ let r = crossing qs l.head j ls h.2 g n in (r.0, mathlib.Core.List.Memᴰ.tail r.1, r.2)
        | inr g ↦ (l, mathlib.Core.List.Memᴰ.head refl, (subst⁻¹ (λ x. Memᴰ (component p x) qs) h.0 m, g))
      ]

      leaving : (qs : List ℕ) → Memᴰ 0 qs → (n q : ℕ) → t.rank q < n → Memᴰ q vs → (Memᴰ q qs → ⊥)
          → (l : Link) × Memᴰ l bundle × Leaves qs l
      unfolding bundle
      leaving qs z zero q b m o = absurd (omega arith)
      leaving qs z (suc n) q b m o = elim (mem? (up q) qs) [
        | inl g ↦
            let s = (leg q).1 m in
            let r = crossing qs s.tail s.head (leg q).0 s.chained (subst⁻¹ (λ x. Memᴰ x qs) s.from g)
            (λ h. o (subst (λ x. Memᴰ x qs) s.to h)) in
            (r.0, mem_flat_map (λ q. (leg q).0) m r.1, r.2)
        | inr g ↦ elim (mathlib.Core.List.Memᴰ.cases_cons (t.inside q m)) [
          | inl e ↦ absurd (g (subst⁻¹ (λ x. Memᴰ x qs) e z))
          | inr h ↦ let f = t.falls q m in leaving qs z n (up q) (omega arith) h g
        ]
      ]

      record Grown (qs : List ℕ) (entry : ℕ → Link) (rank : ℕ → ℕ) : Type 0 where
        pub root : Memᴰ 0 qs
        pub chosen : (q : ℕ) → Memᴰ q qs → q ≢ 0 → Memᴰ (entry q) bundle
        pub head : (q : ℕ) → Memᴰ q qs → q ≢ 0 → component p (entry q).head ≡ q
        pub tail : (q : ℕ) → Memᴰ q qs → q ≢ 0 → Memᴰ (component p (entry q).tail) qs
        pub falls : (q : ℕ) → Memᴰ q qs → q ≢ 0 → rank (component p (entry q).tail) < rank q

      -- one component more
      module _ (qs : List ℕ) (entry : ℕ → Link) (rank : ℕ → ℕ) (g : Grown qs entry rank) (l : Link) (m : Memᴰ l bundle)
          (leaves : Leaves qs l) where
        abbrev x : ℕ
        x = component p l.head

        abbrev entry' : ℕ → Link
        entry' = update entry x l

        abbrev rank' : ℕ → ℕ
        rank' = update rank x (suc (rank (component p l.tail)))

        old : {q : ℕ} → Memᴰ q qs → q ≢ x
        old n e = leaves.1 (subst (λ y. Memᴰ y qs) e n)

        old_rank : {q : ℕ} → Memᴰ q qs → rank' q ≡ rank q
        old_rank {q} n = update_other rank x (suc (rank (component p l.tail))) q (old n)

        both : (P : ℕ → Link → Type 0) → P x l → ((q : ℕ) → Memᴰ q qs → q ≢ 0 → P q (entry q)) → (q : ℕ) → Memᴰ q (x ∷ qs)
            → q ≢ 0 → P q (entry' q)
        both P a b q n o = elim (mathlib.Core.List.Memᴰ.cases_cons n) [
          | inl e ↦ subst⁻¹ (λ y. P y (entry' y)) e (subst⁻¹ (P x) (update_at entry x l) a)
          | inr h ↦ subst⁻¹ (P q) (update_other entry x l q (old h)) (b q h o)
        ]

        grow : Grown (x ∷ qs) entry' rank'
        grow = record {
          root = mathlib.Core.List.Memᴰ.tail g.root;
          chosen = both (λ q y. Memᴰ y bundle) m g.chosen;
          head = both (λ q y. component p y.head ≡ q) refl g.head;
          tail = both (λ q y. Memᴰ (component p y.tail) (x ∷ qs)) (mathlib.Core.List.Memᴰ.tail leaves.0)
              (λ q n o. mathlib.Core.List.Memᴰ.tail (g.tail q n o));
          falls = both (λ q y. rank' (component p y.tail) < rank' q)
              (let a = old_rank leaves.0 in let b = update_at rank x (suc (rank (component p l.tail))) in omega arith)
              (λ q n o. (let a = old_rank (g.tail q n o) in let b = old_rank n in let f = g.falls q n o in omega arith));
        }

      -- all components
      record Spans (entry : ℕ → Link) : Type 0 where
        pub qs : List ℕ
        pub rank : ℕ → ℕ
        pub grown : Grown qs entry rank
        pub all : (q : ℕ) → Memᴰ q vs → Memᴰ q qs

      whole : (qs : List ℕ) (entry : ℕ → Link) (rank : ℕ → ℕ) → Grown qs entry rank
          → ((q : ℕ) → Memᴰ q vs → Memᴰ q qs ⊎ Memᴰ q []) → Spans entry
      whole qs entry rank g c = record { qs = qs; rank = rank; grown = g; all = λ q m. elim (c q m) [ inl h ↦ h | inr h ↦ elim h [ ] ] }

      grow_all : (n : ℕ) (rest qs : List ℕ) (entry : ℕ → Link) (rank : ℕ → ℕ) → length rest ≤ n → Grown qs entry rank
          → ((q : ℕ) → Memᴰ q rest → Memᴰ q vs)
          → ((q : ℕ) → Memᴰ q vs → Memᴰ q qs ⊎ Memᴰ q rest) → (e : ℕ → Link) × Spans e
      grow_all zero [] qs entry rank b g i c = (entry, whole qs entry rank g c)
      grow_all (suc n) [] qs entry rank b g i c = (entry, whole qs entry rank g c)
      grow_all zero (r ∷ rest) qs entry rank b g i c = absurd (omega arith)
      grow_all (suc n) (r ∷ rest) qs entry rank b g i c = elim (mem? r qs) [
        | inl h ↦ grow_all n rest qs entry rank (omega arith) g (λ q m. i q (mathlib.Core.List.Memᴰ.tail m)) (λ q m. elim (c q m) [
          | inl y ↦ inl y
          | inr y ↦ elim (mathlib.Core.List.Memᴰ.cases_cons y) [ inl e ↦ inl (subst⁻¹ (λ x. Memᴰ x qs) e h) | inr y' ↦ inr y' ]
        ])
        | inr h ↦
            let s = leaving qs g.root (suc (t.rank r)) r (omega arith) (i r (mathlib.Core.List.Memᴰ.head refl)) h in
            let l = s.0 in
            let x = component p l.head in
            let xm : Memᴰ x vs =
            elim (mathlib.Core.List.Memᴰ.cases_cons (mem_all (component_lt p ends (link_ends p (bundle_links s.1)).1))) [
              | inl e ↦
                  absurd (s.2.1 (subst⁻¹ (λ y. Memᴰ y qs) e g.root))
              | inr y ↦ y
            ] in
            let xr : Memᴰ x (r ∷ rest) = elim (c x xm) [ inl y ↦ absurd (s.2.1 y) | inr y ↦ y ] in
            let k = pick_of_mem xr in
            let f = pick_length k.1 in
            grow_all n k.0 (x ∷ qs) (update entry x l) (update rank x (suc (rank (component p l.tail)))) (omega arith)
            (grow qs entry rank g l s.1 s.2)
            (λ q m. i q (left_mem k.1 m)) (λ q m. elim (c q m) [
              | inl y ↦ inl (mathlib.Core.List.Memᴰ.tail y)
              | inr y ↦ elim (pick_cases k.1 y) [ inl e ↦ inl (mathlib.Core.List.Memᴰ.head e) | inr y' ↦ inr y' ]
            ])
      ]

      spanning : (e : ℕ → Link) × Spans e
      spanning = grow_all (length vs) vs (0 ∷ []) (λ q. no_link) (λ q. 0) (le_refl (length vs)) (record {
        root = mathlib.Core.List.Memᴰ.head refl;
        chosen = λ q m o. absurd (o (mathlib.Core.List.Memᴰ.eq_of_singleton m));
        head = λ q m o. absurd (o (mathlib.Core.List.Memᴰ.eq_of_singleton m));
        tail = λ q m o. absurd (o (mathlib.Core.List.Memᴰ.eq_of_singleton m));
        falls = λ q m o. absurd (o (mathlib.Core.List.Memᴰ.eq_of_singleton m));
      }) (λ q m. m) (λ q m. inr m)

      abbrev entry : ℕ → Link
      entry = spanning.0

      abbrev spans : Spans entry
      spans = spanning.1

      abbrev tree : List Link
      tree = map entry vs

      in_span : (q : ℕ) → 1 ≤ q → q < k → Memᴰ q spans.qs
      in_span q a b = spans.all q (mem_others a b)

      tree_at : (q : ℕ) → q < k - 1 → link_at tree q ≡ entry (suc q)
      unfolding others_of
      tree_at q l = get_d_map_up_from entry 1 (k - 1) q no_link l ∙ ap entry (one-add q)

      tree_size : length tree ≡ k - 1
      unfolding others_of
      tree_size = length-map vs entry ∙ length_up_from 1 (k - 1)

      is_arborescence : IsArborescence p tree
      unfolding parent
      is_arborescence = record {
        size = tree_size;
        enters = λ q l.
            (let n = tree_size in let h : q < k - 1 = omega arith in let m = in_span (suc q) (omega arith) (omega arith) in
            let o : suc q ≢ 0 = λ e. (omega arith) in
            let f = spans.grown.falls (suc q) m o in
            subst⁻¹ (Enters p (suc q)) (tree_at q h) (record {
              is_link_holds = bundle_links (spans.grown.chosen (suc q) m o);
              head = spans.grown.head (suc q) m o;
              tail = λ e. (let g = ap spans.rank e in omega arith);
            }));
        back = λ q l. rank_arrives (λ q. q < k) (parent p tree) spans.rank inside falling (suc (spans.rank q)) q (omega arith) l;
      }
        where
          inside : (q : ℕ) → q < k → q ≢ 0 → parent p tree q < k
          inside zero l o = absurd (o refl)
          inside (suc q) l o =
              subst⁻¹ (λ (x : Link). component p x.tail < k) (tree_at q (omega arith))
              (component_lt p ends (link_ends p (bundle_links (spans.grown.chosen (suc q) (in_span (suc q) (omega arith) l) o))).0)

          falling : (q : ℕ) → q < k → q ≢ 0 → spans.rank (parent p tree q) < spans.rank q
          falling zero l o = absurd (o refl)
          falling (suc q) l o =
              subst⁻¹ (λ (x : Link). spans.rank (component p x.tail) < spans.rank (suc q)) (tree_at q (omega arith))
              (spans.grown.falls (suc q) (in_span (suc q) (omega arith) l) o)

      tree_cost_lem : reduced_sum p u tree ≤ℤ tree_cost w vs up
      unfolding reduced_sum
      tree_cost_lem =
          let r = extract entry (component p) vs bundle
          (λ q m. (let b = others_lt m in let c = b.0 in let n = spans.all q m in let o : q ≢ 0 = λ e. (omega arith) in
          (spans.grown.chosen q n o, spans.grown.head q n o))) others_are.once in
          let a = without_sum reduced r.1 in
          let b = sum_nonneg reduced r.0
          (λ l m. (let e = link_ends p (bundle_links (without_mem r.1 m)) in feasible l.tail l.head e.0 e.1)) in
          let c = bundle_cost in
          subst (λ (x : ℤ). sum_ofℤ (map reduced tree) ≤ℤ x) c
          (subst⁻¹ (λ (x : ℤ). sum_ofℤ (map reduced tree) ≤ℤ x) a (simp zl (omega (arith, z))))

      listed : Memᴰ tree (arborescences p)
      listed = mem_arborescences p ends is_arborescence

  -- the least over pairs is the least over links
  pub pairs_links : WellFormed p → 1 ≤ k → (u : Multipliers) (w : Matrix) → IsPairMatrix p u w → Feasible p u → (a : ℤ) → IsCheapest vs w a
      → a ≡ cheapest_arborescence p u
  pairs_links ok some u w is feasible a h =
      let m = listed u w is ok feasible some h.tree h.is_tree_holds in
      let b = cheapest_le p u m in
      let c = tree_cost_lem u w is ok feasible some h.tree h.is_tree_holds in
      let n = mem_get_d [] m in
      let r = cheapest_at p u (let l = n.1 in omega arith) in
      let s = arborescences_mem p r.1 in
      let e = (bounded ok).ends in
      let d = h.least (parent p r.0) (arborescence_tree u w is e r.0 s) in
      let f = arborescence_cost u w is e r.0 s in
      let g = r.2 in
      let i = h.attained in
      ≤ℤ-antisym (subst⁻¹ (λ (x : ℤ). a ≤ℤ x) g (≤ℤ-trans d f))
      (≤ℤ-trans b (subst (λ (x : ℤ). reduced_sum p u (tree u w is ok feasible some h.tree h.is_tree_holds) ≤ℤ x) i c))
