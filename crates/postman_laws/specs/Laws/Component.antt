-- Being joined by required arcs, direction ignored, is an equivalence, since the graph holds each arc both ways. Each class has a lowest
-- vertex, and a vertex's component is the place of the lowest vertex that it is joined to.
use Rattle.std.specs.Prelude.{◌≡◌, refl, Bool, ◌&&◌, ◌⊎◌}
use Rattle.std.proofs.Common.{sym, ap, subst, le_refl, arith, T_not}
use Rattle.std.proofs.Math.Path.{subst⁻¹}
use Rattle.std.proofs.Math.Bool.{not}
use Rattle.std.proofs.Math.Logic.{inl, inr}
use mathlib.Core.List.Memᴰ
use mathlib.Core.List.{List, [], ◌∷◌, Memᴰ}
use Prim.Native.Nat.{ℕ, zero, suc, ◌≤◌, ◌<◌}
use Rattle.std.proofs.Math.Decide.{dec_le}
use Rattle.std.proofs.Math.ListN.{get_or}
use Rattle.std.proofs.Math.Dec.{T, ltb, not_T, lt→ltb, ltb→lt}
use Rattle.postman.specs.Lists.{any_of, below}
use Rattle.postman.specs.Plan.{Arc, Plan, is_required_arc, arc_at, required_arcs}
use Rattle.postman.specs.Drive.{IsWalk, walk_cost}
use Rattle.postman.specs.Required.{is_required, required}
use Rattle.postman.specs.Distance.{no_path, distance, has_path}
use Rattle.postman.specs.Component.{both_ways, required_graph, joined, lowest, component, component_count}
use Rattle.postman.specs.Laws.Tests.{test, and_both, and_parts, same_test}
use Rattle.postman.specs.Laws.Membership.{mem_select, select_mem, get_d_mem, any_of_mem, any_of_at}
use Rattle.postman_laws.specs.Laws.Ascending.{Ascends, ascends_up_from, ascends_select, ascends_lt, index_lt, index_at, index_cong, index_test}
use Rattle.postman_laws.specs.Laws.Distance.{InPlan, distance_le, path_walk}
use Rattle.postman_laws.specs.Laws.Walk.{Leads, join, one_way}
use Rattle.postman_laws.specs.Laws.Required.{required_lt}

-- ---- the graph of the required arcs: each of its arcs is a required arc one way or the other

abbrev pub flat : ℕ → ℕ → Arc
flat i j = record { tail = i; head = j; standing = 0; cost = 0; service = 0 }

pub both_of : {x : Arc} (arcs : List Arc) → Memᴰ x (both_ways arcs)
    → (a : Arc) × Memᴰ a arcs × ((x ≡ flat a.tail a.head) ⊎ (x ≡ flat a.head a.tail))
unfolding both_ways
both_of [] m = elim m [ ]
both_of (a ∷ arcs) m = elim (Memᴰ.cases_cons m) [
  | inl e ↦ (a, Memᴰ.head refl, inl e)
  | inr m₁ ↦ elim (Memᴰ.cases_cons m₁) [
    | inl e ↦ (a, Memᴰ.head refl, inr e)
    | inr m₂ ↦ let r = both_of arcs m₂ in (r.0, Memᴰ.tail r.1, r.2)
  ]
]

of_both : {a : Arc} {arcs : List Arc} → Memᴰ a arcs
    → Memᴰ (flat a.tail a.head) (both_ways arcs) × Memᴰ (flat a.head a.tail) (both_ways arcs)
unfolding both_ways
of_both (Memᴰ.head e) = (
  Memᴰ.head (ap (λ (a : Arc). flat a.tail a.head) e),
  Memᴰ.tail (Memᴰ.head (ap (λ (a : Arc). flat a.head a.tail) e)),
)
of_both (Memᴰ.tail m) = let r = of_both m in (Memᴰ.tail (Memᴰ.tail r.0), Memᴰ.tail (Memᴰ.tail r.1))

-- the same arc the other way round
turned : {x : Arc} (arcs : List Arc) → Memᴰ x (both_ways arcs) → Memᴰ (flat x.head x.tail) (both_ways arcs)
turned arcs m =
    let r = both_of arcs m in
    elim r.2 [
      | inl e ↦ subst⁻¹ (λ (y : Arc). Memᴰ (flat y.head y.tail) (both_ways arcs)) e (of_both r.1).1
      | inr e ↦ subst⁻¹ (λ (y : Arc). Memᴰ (flat y.head y.tail) (both_ways arcs)) e (of_both r.1).0
    ]

free : {x : Arc} (arcs : List Arc) → Memᴰ x (both_ways arcs) → x.cost ≡ 0
free arcs m = elim (both_of arcs m).2 [ inl e ↦ ap (λ (y : Arc). y.cost) e | inr e ↦ ap (λ (y : Arc). y.cost) e ]

module _ (p : Plan) (ok : InPlan p) where
  abbrev pub undirected : List Arc
  undirected = both_ways (required_arcs p)

  graph_ok : InPlan (required_graph p)
  unfolding required_graph required_arcs
  graph_ok x m =
      let r = both_of (required_arcs p) m in
      let h = ok r.0 (select_mem is_required_arc p.arcs r.1).0 in
      elim r.2 [
        | inl e ↦ subst⁻¹ (λ (y : Arc). (y.tail < p.n) × (y.head < p.n)) e h
        | inr e ↦ subst⁻¹ (λ (y : Arc). (y.tail < p.n) × (y.head < p.n)) e (h.1, h.0)
      ]

  no_cost : (i j : ℕ) (w : List ℕ) → IsWalk undirected i w j → walk_cost undirected w ≡ 0
  no_cost i j [] h = refl
  no_cost i j (k ∷ w) h = let c = free {x = arc_at undirected k} (required_arcs p) (get_d_mem undirected _ k h.0) in
      let r = no_cost (arc_at undirected k).head j w h.3 in omega arith

  back : (i j : ℕ) (w : List ℕ) → IsWalk undirected i w j → Leads undirected j i
  back i j [] h = ([], sym h)
  back i j (k ∷ w) h =
      join undirected (back (arc_at undirected k).head j w h.3)
      (subst (λ z. Leads undirected (arc_at undirected k).head z) h.2
      (one_way undirected (turned {x = arc_at undirected k} (required_arcs p) (get_d_mem undirected _ k h.0)) tt))

  -- ---- joined: some walk of required arcs leads there, direction ignored

  pub joined_walk : (u v : ℕ) → T (joined p u v) → Leads undirected u v
  unfolding joined required_graph
  joined_walk u v t = path_walk (required_graph p) graph_ok u v t

  pub walk_joined : (u v : ℕ) → u < p.n → Leads undirected u v → T (joined p u v)
  unfolding joined has_path required_graph no_path
  walk_joined u v l w =
      let h = distance_le (required_graph p) graph_ok u v w.0 l w.1 in
      let c = no_cost u v w.0 w.1 in
      lt→ltb (distance (required_graph p) u v) no_path (omega arith)

  joined_refl : (u : ℕ) → u < p.n → T (joined p u u)
  joined_refl u l = walk_joined u u l ([], refl)

  joined_sym : (u v : ℕ) → v < p.n → T (joined p u v) → T (joined p v u)
  joined_sym u v l t = let w = joined_walk u v t in walk_joined v u l (back u v w.0 w.1)

  joined_trans : (u v w : ℕ) → u < p.n → T (joined p u v) → T (joined p v w) → T (joined p u w)
  joined_trans u v w l s t = walk_joined u w l (join undirected (joined_walk u v s) (joined_walk v w t))

  -- ---- the lowest vertices

  abbrev lower : ℕ → ℕ → Bool
  lower v u = ltb u v && joined p u v

  lowest_of : {v : ℕ} → Memᴰ v (lowest p) → Memᴰ v (required p) × T (not (any_of (lower v) (required p)))
  unfolding lowest
  lowest_of m = select_mem (λ v. not (any_of (λ u. ltb u v && joined p u v) (required p))) (required p) m

  -- none of a component is below its lowest vertex
  lowest_le : {r v : ℕ} → Memᴰ r (lowest p) → Memᴰ v (required p) → T (joined p v r) → r ≤ v
  lowest_le {r} {v} m n t = elim (dec_le r v) [
    | yes h ↦ h
    | no h ↦ absurd
        (T_not (any_of (lower r) (required p)) (lowest_of m).1
        (any_of_mem (lower r) n (and_both (ltb v r) (joined p v r) (lt→ltb v r (omega arith)) t)))
  ]

  -- every required vertex is joined to the lowest one of its component
  has_lowest : (n v : ℕ) → v < n → Memᴰ v (required p) → (r : ℕ) × Memᴰ r (lowest p) × T (joined p r v)
  unfolding lowest
  has_lowest zero v l m = absurd (omega arith)
  has_lowest (suc n) v l m = elim (test (any_of (lower v) (required p))) [
    | inl t ↦
        let u = any_of_at (lower v) (required p) t in
        let b = and_parts (ltb u.0 v) (joined p u.0 v) u.2 in
        let k = ltb→lt u.0 v b.0 in
        let r = has_lowest n u.0 (omega arith) u.1 in
        (r.0, r.1, joined_trans r.0 u.0 v (required_lt p (lowest_of r.1).0) r.2 b.1)
    | inr t ↦ (v, mem_select (λ v. not (any_of (λ u. ltb u v && joined p u v) (required p))) m t, joined_refl v (required_lt p m))
  ]

  lowest_ascends : Ascends 0 (lowest p)
  unfolding lowest required below
  lowest_ascends =
      ascends_select (λ v. not (any_of (λ u. ltb u v && joined p u v) (required p))) 0 (required p)
      (ascends_select (is_required p) 0 (below p.n) (ascends_up_from 0 p.n))

  -- ---- components: numbers below k

  pub component_lt : {v : ℕ} → Memᴰ v (required p) → component p v < component_count p
  unfolding component component_count
  component_lt {v} m = let r = has_lowest (suc v) v (le_refl (suc v)) m in index_lt (λ r. joined p r v) r.1 r.2

  -- component q is that of the lowest vertex in place q
  pub component_at : (q : ℕ) → q < component_count p → Memᴰ (get_or (lowest p) q 0) (required p) × (component p (get_or (lowest p) q 0) ≡ q)
  unfolding component component_count
  component_at q l =
      let v = get_or (lowest p) q 0 in
      let m = lowest_of (get_d_mem (lowest p) 0 q l) in (
        m.0,
        index_at (λ r. joined p r v) (lowest p) q l (joined_refl v (required_lt p m.0))
            (λ r k. not_T (joined p (get_or (lowest p) r 0) v) (λ t.
            let n = get_d_mem (lowest p) 0 r (omega arith) in
            let a = ascends_lt 0 (lowest p) r q lowest_ascends k l in
            let b = lowest_le (get_d_mem (lowest p) 0 q l) (lowest_of n).0 t in
            omega arith)),
      )

  -- the lowest vertices ascend with their components' numbers
  pub lowest_lt : (q r : ℕ) → q < r → r < component_count p → get_or (lowest p) q 0 < get_or (lowest p) r 0
  unfolding component_count
  lowest_lt q r h l = ascends_lt 0 (lowest p) q r lowest_ascends h l

  joined_lowest : {v : ℕ} → Memᴰ v (required p) → T (joined p (get_or (lowest p) (component p v) 0) v)
  unfolding component component_count
  joined_lowest {v} m = index_test (λ r. joined p r v) (lowest p) (component_lt m)

  -- and each is the lowest of its component
  pub component_lowest : {v : ℕ} → Memᴰ v (required p) → get_or (lowest p) (component p v) 0 ≤ v
  unfolding component_count
  component_lowest {v} m =
      let r = get_d_mem (lowest p) 0 (component p v) (component_lt m) in
      lowest_le r m (joined_sym (get_or (lowest p) (component p v) 0) v (required_lt p m) (joined_lowest m))

  -- ---- same component: exactly when joined

  joined_component : {u v : ℕ} → u < p.n → v < p.n → T (joined p u v) → component p u ≡ component p v
  unfolding component
  joined_component {u} {v} lu lv t =
      index_cong (λ r. joined p r u) (λ r. joined p r v) (lowest p) (λ r n.
      let l = required_lt p (lowest_of n).0 in
      same_test (joined p r u) (joined p r v) (λ s. joined_trans r u v l s t) (λ s. joined_trans r v u l s (joined_sym u v lv t)))

  pub walk_component : {u v : ℕ} → Memᴰ u (required p) → Memᴰ v (required p) → Leads undirected u v
      → component p u ≡ component p v
  walk_component {u} {v} mu mv w = joined_component (required_lt p mu) (required_lt p mv) (walk_joined u v (required_lt p mu) w)

  pub component_walk : {u v : ℕ} → Memᴰ u (required p) → Memᴰ v (required p) → component p u ≡ component p v
      → Leads undirected u v
  unfolding component_count
  component_walk {u} {v} mu mv e =
      let r = get_or (lowest p) (component p u) 0 in
      let l = required_lt p (lowest_of (get_d_mem (lowest p) 0 (component p u) (component_lt mu))).0 in
      let a = joined_sym r u (required_lt p mu) (joined_lowest mu) in
      let b = subst⁻¹ (λ q. T (joined p (get_or (lowest p) q 0) v)) e (joined_lowest mv) in
      join undirected (joined_walk u r a) (joined_walk r v b)

  -- tail and head of a required arc are in one component
  pub arc_component : {a : Arc} → Memᴰ a (required_arcs p) → component p a.tail ≡ component p a.head
  unfolding required_arcs
  arc_component {a} m =
      let e = ok a (select_mem is_required_arc p.arcs m).0 in
      joined_component e.0 e.1 (walk_joined a.tail a.head e.0 (one_way undirected (of_both m).0 tt))
