-- The bounds of a branch. Potentials price the links that are to come at no more than they add to the cost, by duality. The least reduced
-- cost of each component is at most that of what is chosen for it.
use Rattle.std.specs.Prelude.{◌≡◌, refl}
use Rattle.std.proofs.Math.Path.{ap, subst⁻¹}
use Rattle.std.proofs.Common.{◌∙◌, subst, inl, inr}
use mathlib.Core.List.Memᴰ
use mathlib.Core.List.{List, [], ◌∷◌, ◌++◌, map, flat_map, Memᴰ, map-append}
use Prim.Native.Nat.{ℕ, suc, ◌+◌, ◌-◌, ◌≤◌, ◌<◌}
use native.Mathlib.Omega.{arith}
use Rattle.postman.specs.Lists.{sum_of, choices, up_from}
use Rattle.postman.specs.Plan.{Plan, required_arcs}
use Rattle.postman.specs.Required.{required, required_cost}
use Rattle.postman.specs.Distance.{distance}
use Rattle.postman.specs.Link.{Link}
use Rattle.postman.specs.Component.{component_count}
use Rattle.postman.specs.Arborescence.{candidates}
use Rattle.postman.specs.Balancing.{heads, tails, sum_over, link_cost, least_balancing, completion_cost}
use Rattle.postman_laws.specs.Laws.Sum.{sum_append}
use Rattle.postman.specs.Laws.Membership.{mem_map, mem_flat_map, flat_map_mem, map_mem}
use Rattle.postman.specs.Steps.{Joins, cell}
use Rattle.postman_laws.specs.Laws.Balancing.{within_heads, within_tails, same_length}
use Rattle.residual_search.specs.Step.{potential}
use Rattle.balance.specs.Laws.Duality.{price_le}
use Rattle.tree_bounds.specs.Branch.{left_choices}
use Rattle.tree_bounds.specs.Bound.{reduced_by, reduced_costs, ArePotentials, Bounds, Low}
use Rattle.tree_bounds.specs.Prepared.{Prepared}
use Rattle.tree_bounds.specs.Laws.Prepared.{left_joins, in_plan, agrees}

-- ---- choices of links, by the first of them

module _ (p : Plan) (a : ℕ) (more : a < component_count p) where
  left_first : left_choices p a ≡ flat_map (λ l. map (λ t. l ∷ t) (left_choices p (suc a))) (candidates p a)
  unfolding left_choices choices up_from
  left_first = let e : component_count p - a ≡ suc (component_count p - suc a) = omega arith in
      ap (λ n. choices (map (candidates p) (up_from a n))) e

  pub left_cons : (l : Link) (t : List Link) → Memᴰ l (candidates p a) → Memᴰ t (left_choices p (suc a))
      → Memᴰ (l ∷ t) (left_choices p a)
  left_cons l t m n =
      subst⁻¹ (λ (ts : List (List Link)). Memᴰ (l ∷ t) ts) left_first
      (mem_flat_map (λ l. map (λ t. l ∷ t) (left_choices p (suc a))) m (mem_map (λ (t : List Link). l ∷ t) n))

  pub left_uncons : (t : List Link) → Memᴰ t (left_choices p a)
      → (l : Link) × (s : List Link) × Memᴰ l (candidates p a) × Memᴰ s (left_choices p (suc a)) × (t ≡ l ∷ s)
  left_uncons t m =
      let r = flat_map_mem (λ (l : Link). map (λ t. l ∷ t) (left_choices p (suc a))) (candidates p a)
      (subst (λ (ts : List (List Link)). Memᴰ t ts) left_first m) in
      let s = map_mem (λ (t : List Link). r.0 ∷ t) (left_choices p (suc a)) r.2 in
      (r.0, s.0, r.1, s.1, s.2)

-- ---- a link is chosen

module _ (p : Plan) (table : List (List ℕ)) (pot : List ℕ) where
  -- ---- the least of what is to come

  pub low_none : (a : ℕ) → Low p table pot 0 a
  low_none a t m = omega arith

  pub low_more : (rest least a : ℕ) → a < component_count p → Low p table pot rest (suc a)
      → ((l : Link) → Memᴰ l (candidates p a) → least ≤ reduced_by table pot l.tail l.head) → Low p table pot (rest + least) a
  unfolding reduced_costs sum_of
  low_more rest least a more b f t m =
      let r = left_uncons p a more t m in
      let x = f r.0 r.2 in
      let y = b r.1 r.3 in
      subst⁻¹ (λ (t : List Link). rest + least ≤ reduced_costs table pot t) r.4 (omega arith)

  -- A BRANCH THAT COSTS TOO MUCH
  pub too_dear : (value rest old : ℕ) (chosen : List Link) (a : ℕ) → a < component_count p → Bounds p table pot value chosen a
      → Low p table pot rest (suc a) → (l : Link) → Memᴰ l (candidates p a)
      → old ≤ value + rest + reduced_by table pot l.tail l.head → (t : List Link) → Memᴰ t (left_choices p (suc a))
      → old ≤ completion_cost p (chosen ++ l ∷ t)
  unfolding reduced_costs sum_of
  too_dear value rest old chosen a more b low l m d t n =
      let c = b (l ∷ t) (left_cons p a more l t m n) in
      let e = low t n in
      omega arith

-- ---- by potentials

-- the reduced costs of links are their d and what the potentials price them at
priced : (table : List (List ℕ)) (vs pot : List ℕ) → ArePotentials table vs pot → (d : ℕ → ℕ → ℕ)
    → ((i j : ℕ) → Memᴰ i vs → Memᴰ j vs → cell table i j ≡ d i j)
    → (t : List Link) → ((l : Link) → Memᴰ l t → Memᴰ l.tail vs × Memᴰ l.head vs)
    → reduced_costs table pot t + sum_over (map (λ (l : Link). l.tail) t) (potential pot)
    ≡ sum_of (map (λ (l : Link). d l.tail l.head) t) + sum_over (map (λ (l : Link). l.head) t) (potential pot)
unfolding reduced_costs sum_of sum_over
priced table vs pot f d g [] j = refl
priced table vs pot f d g (l ∷ t) j =
    let i = j l (Memᴰ.head refl) in
    let h = priced table vs pot f d g t (λ x m. j x (Memᴰ.tail m)) in
    let a = f.feasible _ _ i.0 i.1 in
    let b = g _ _ i.0 i.1 in
    omega arith

sum_of_append : (xs ys : List ℕ) → sum_of (xs ++ ys) ≡ sum_of xs + sum_of ys
unfolding sum_of
sum_of_append [] ys = omega arith
sum_of_append (x ∷ xs) ys = let h = sum_of_append xs ys in omega arith

module _ {p : Plan} {table : List (List ℕ)} {vs start source tails' heads' : List ℕ} {k : ℕ}
    (h : Prepared p table vs start source tails' heads' k) where
  module _ (chosen : List Link) (joins : Joins p chosen) where
    joins_both : {t : List Link} → Joins p t → Joins p (chosen ++ t)
    joins_both jt l m = elim (Memᴰ.append_cases chosen m) [ inl i ↦ joins l i | inr i ↦ jt l i ]

    link_cost_append : (t : List Link) → link_cost p (chosen ++ t) ≡ link_cost p chosen + link_cost p t
    unfolding link_cost
    link_cost_append t =
        ap sum_of (map-append (λ (l : Link). distance p l.tail l.head) chosen t)
        ∙ sum_of_append (map (λ (l : Link). distance p l.tail l.head) chosen) (map (λ (l : Link). distance p l.tail l.head) t)

    -- BY POTENTIALS that price what is known at v or more
    pub priced_bounds : (w : List ℕ) → ArePotentials table (required p) w → (v : ℕ)
        → v + sum_over (tails p chosen) (potential w) ≤ sum_over (heads p chosen) (potential w) → (a : ℕ)
        → Bounds p table w (required_cost p + link_cost p chosen + v) chosen a
    unfolding completion_cost least_balancing heads tails link_cost
    priced_bounds w f v x a t m =
        let u = potential w in
        let jt = left_joins p a t m in
        let js = joins_both jt in
        let y = price_le (distance p) (required p) u (heads p (chosen ++ t)) (tails p (chosen ++ t))
        (same_length p (in_plan h) (chosen ++ t) js) (within_heads p (in_plan h) (chosen ++ t) js)
        (within_tails p (in_plan h) (chosen ++ t) js)
        (λ i j mi mj. let g = f.feasible i j mi mj in let e = agrees h i j mi mj in omega arith) in
        let h0 = map (λ a. a.head) (required_arcs p) in
        let t0 = map (λ a. a.tail) (required_arcs p) in
        let hc = map (λ (l : Link). l.head) chosen in
        let tc = map (λ (l : Link). l.tail) chosen in
        let ht = map (λ (l : Link). l.head) t in
        let tt = map (λ (l : Link). l.tail) t in
        let e1 = ap (λ (l : List ℕ). sum_over (h0 ++ l) u) (map-append (λ (l : Link). l.head) chosen t) ∙ sum_append h0 (hc ++ ht) u
        ∙ ap (λ n. sum_over h0 u + n) (sum_append hc ht u) in
        let e2 = ap (λ (l : List ℕ). sum_over (t0 ++ l) u) (map-append (λ (l : Link). l.tail) chosen t) ∙ sum_append t0 (tc ++ tt) u
        ∙ ap (λ n. sum_over t0 u + n) (sum_append tc tt u) in
        let e3 = sum_append h0 hc u in
        let e4 = sum_append t0 tc u in
        let e5 = priced table (required p) w f (distance p) (agrees h) t jt in
        let e6 = link_cost_append t in
        omega arith
