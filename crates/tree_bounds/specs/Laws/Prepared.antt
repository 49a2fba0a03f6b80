-- For a prepared plan: the table's distances are the plan's, the places of a component's candidates in the arrays are those of its links,
-- and links chosen for components join required vertices.
use Rattle.std.specs.Prelude.{◌≡◌, refl, ℕ, suc, ◌+◌, ◌*◌, ◌-◌, ◌≤◌, ◌<◌, length, get_or}
use Rattle.std.proofs.Common.{ap, ◌∙◌, suc-mul, mul-le-mul_right, arith}
use Rattle.std.proofs.Math.Path.{subst}
use mathlib.Core.List.{List, [], ◌∷◌, map, Memᴰ}
use Rattle.postman.specs.Lists.{select, sum_of}
use Rattle.postman.specs.Plan.{Arc, Plan, is_required_arc, required_arcs, WellFormed}
use Rattle.postman.specs.Required.{required, required_cost}
use Rattle.postman.specs.Distance.{distance}
use Rattle.postman.specs.Link.{Link}
use Rattle.postman.specs.Component.{component, component_count}
use Rattle.postman.specs.Arborescence.{link_at, candidates}
use Rattle.postman.specs.Laws.Tests.{cond_ind}
use Rattle.postman_laws.specs.Laws.Distance.{InPlan, bounded}
use Rattle.postman_laws.specs.Laws.Required.{required_below}
use Rattle.postman.specs.Steps.{Joins, cell, no_link}
use Rattle.postman.specs.Laws.Membership.{get_d_mem, mem_get_d, choices_mem}
use Rattle.postman_laws.specs.Laws.Link.{link_ends}
use Rattle.postman_laws.specs.Laws.Arborescence.{candidates_mem}
use Rattle.balance.specs.Invariant.{Metric}
use Rattle.direct_amounts.specs.Laws.Plan.{table_metric}
use Rattle.tree_bounds.specs.Branch.{left_choices}
use Rattle.tree_bounds.specs.Prepared.{Prepared}

-- ---- R is small

sum_select : (xs : List Arc) → ((a : Arc) → Memᴰ a xs → a.service ≤ 65535)
    → sum_of (map (λ a. a.service) (select is_required_arc xs)) ≤ length xs * 65535
unfolding sum_of select
sum_select [] h = omega arith
sum_select (x ∷ xs) h =
    let i = sum_select xs (λ a m. h a (Memᴰ.tail m)) in
    let b = h x (Memᴰ.head refl) in
    let e = suc-mul (length xs) 65535 in
    cond_ind (is_required_arc x) (x ∷ select is_required_arc xs) (select is_required_arc xs)
    (λ l. sum_of (map (λ a. a.service) l) ≤ suc (length xs) * 65535)
    (λ t. omega arith) (λ t. omega arith)

pub required_small : (p : Plan) → WellFormed p → required_cost p ≤ 16776960
unfolding required_cost required_arcs
required_small p ok =
    let a = sum_select p.arcs (λ a m. (ok.each a m).service_in) in
    let b = mul-le-mul_right {m = length p.arcs} {n = 256} 65535 ok.arc_count_holds in
    omega arith

-- ---- links chosen for components

module _ (p : Plan) where
  pub candidate_ends : (q : ℕ) (l : Link) → Memᴰ l (candidates p q)
      → Memᴰ l.tail (required p) × Memᴰ l.head (required p)
  candidate_ends q l m = link_ends p (candidates_mem p q m).is_link_holds

  pub left_joins : (a : ℕ) (t : List Link) → Memᴰ t (left_choices p a) → Joins p t
  unfolding left_choices
  left_joins a t m l n =
      let c = choices_mem no_link (candidates p) a (component_count p - a) m in
      let r = mem_get_d no_link n in
      let size = c.0 in
      subst (λ (x : Link). Memᴰ x.tail (required p) × Memᴰ x.head (required p)) r.2
      (candidate_ends (a + r.0) (get_or t r.0 no_link) (c.1 r.0 (let b = r.1 in omega arith)))

-- ---- a prepared plan

module _ {p : Plan} {table : List (List ℕ)} {vs start source tails heads : List ℕ} {k : ℕ}
    (h : Prepared p table vs start source tails heads k) where
  pub in_plan : InPlan p
  in_plan = (bounded h.plannable.well_formed).ends

  pub some_component : 1 ≤ component_count p
  some_component = let a = h.layout.sources.some_component in let e = h.count in omega arith

  pub agrees : (i j : ℕ) → Memᴰ i (required p) → Memᴰ j (required p) → cell table i j ≡ distance p i j
  agrees i j mi mj =
      h.distances i j (required_below p h.plannable.well_formed mi) (required_below p h.plannable.well_formed mj)

  pub metric : Metric (cell table) (required p)
  metric = table_metric p h.plannable.well_formed h.plannable.connected (cell table) agrees

  -- the candidate at a place
  module _ (q : ℕ) (one : 1 ≤ q) (few : q < k) where
    pub places : get_or start (q + 1) 0 ≡ get_or start q 0 + length (candidates p q)
    places = let a = h.candidates.count q one (let e = h.count in omega arith) in let b = h.layout.ascending q few in omega arith

    pub places_fit : get_or start (q + 1) 0 ≤ 4096
    places_fit = h.layout.fits q few

    module _ (i : ℕ) (l : i < length (candidates p q)) where
      abbrev pub link_here : Link
      link_here = link_at (candidates p q) i

      pub here_mem : Memᴰ link_here (candidates p q)
      here_mem = get_d_mem (candidates p q) no_link i l

      pub here_source : get_or source (get_or start q 0 + i) 0 ≡ component p link_here.tail
      here_source = h.candidates.source q i one (let e = h.count in omega arith) l

  -- a candidate has a place
  pub place_of : (q : ℕ) → 1 ≤ q → q < k → (l : Link) → Memᴰ l (candidates p q)
      → (x : ℕ) × (get_or start q 0 ≤ x) × (x < get_or start (q + 1) 0) × (get_or tails x 0 ≡ l.tail) × (get_or heads x 0 ≡ l.head)
  place_of q one few l m =
      let r = mem_get_d no_link m in
      let e = h.ends q r.0 one few r.1 in
      let b = places q one few in (
        get_or start q 0 + r.0,
        omega arith,
        (let c = r.1 in omega arith),
        e.0 ∙ ap (λ (x : Link). x.tail) r.2,
        e.1
            ∙ ap (λ (x : Link). x.head) r.2,
      )
