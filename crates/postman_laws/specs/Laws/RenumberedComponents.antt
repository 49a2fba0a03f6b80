-- A vertex is required exactly when its new number is, and two are in one component exactly when their new numbers are. So the components
-- are as many: the new number of each component's lowest vertex is in a component of its own, which are at least as many then, and the same
-- holds on the way back. And whatever of 10, 11 and 12 applies to one plan applies to the other.
use Rattle.std.specs.Prelude.{◌≡◌, refl, ◌↔◌, not, ℕ, ◌≤◌, get_or, ltb}
use Rattle.std.proofs.Common.{sym, ◌∙◌, subst, arith}
use Rattle.std.proofs.Math.Path.{ap, ap₂, subst⁻¹, fun_ext}
use Rattle.std.proofs.Math.Bool.{Bool, ◌||◌}
use mathlib.Core.List.{List, [], ◌∷◌, ◌++◌, map, Memᴰ}
use Rattle.std.proofs.Math.Dec.{T, eqb}
use Rattle.postman.specs.Lists.{any_of, below}
use Rattle.postman.specs.Plan.{Arc, Plan, required_arcs, WellFormed}
use Rattle.postman.specs.Refusal.{Conditions}
use Rattle.postman.specs.Required.{is_required, required}
use Rattle.postman.specs.Distance.{has_path}
use Rattle.postman.specs.Component.{both_ways, component, component_count, lowest}
use Rattle.postman.specs.PlanCall.{is_cut_off, parts_conditions, last_conditions}
use Rattle.postman.specs.Renumbering.{IsNumbering, renumbered_arc, renumbered}
use Rattle.postman.specs.Laws.Tests.{same_test}
use Rattle.postman.specs.Laws.Membership.{mem_select, select_mem, any_of_mem, any_of_at, mem_below, below_mem, length_below}
use Rattle.postman_laws.specs.Laws.Lists.{any_of_map}
use Rattle.postman_laws.specs.Laws.Pick.{differ_le}
use Rattle.postman_laws.specs.Laws.Distance.{InPlan, bounded}
use Rattle.postman_laws.specs.Laws.Walk.{Leads}
use Rattle.postman_laws.specs.Laws.Component.{flat, undirected, component_lt, component_at, walk_component, component_walk}
use Rattle.postman.proofs.Numbering.{eqb_number, inverse}
use Rattle.postman_laws.specs.Laws.Renumbering.{renumbered_back, renumbered_well_formed, renumbered_required, renumbered_count}
use Rattle.postman_laws.specs.Laws.RenumberedDrive.{walks}
use Rattle.postman_laws.specs.Laws.RenumberedDistance.{path_renumbered}
use Rattle.postman.specs.Steps.{Plannable}

-- ---- the required vertices

module _ (p : Plan) {π σ : ℕ → ℕ} (h : IsNumbering p.n π σ) where
  abbrev q : Plan
  q = renumbered p π

  required_same : (v : ℕ) → is_required q (π v) ≡ is_required p v
  unfolding is_required
  required_same v =
      let f : Arc → Bool = λ a. eqb a.tail (π v) || eqb a.head (π v) in
      ap (any_of f) (renumbered_required p π) ∙ any_of_map f (renumbered_arc π) (required_arcs p)
      ∙ ap (λ (g : Arc → Bool). any_of g (required_arcs p)) (fun_ext (λ a. ap₂ ◌||◌ (eqb_number h a.tail v) (eqb_number h a.head v)))

  pub requireds : (v : ℕ) → Memᴰ (π v) (required q) ↔ Memᴰ v (required p)
  unfolding required
  requireds v = (back, into)
    where
      back : Memᴰ (π v) (required q) → Memᴰ v (required p)
      back m =
          let r = select_mem (is_required q) (below p.n) m in
          let l = (inverse h).inside (π v) (below_mem r.0) in
          let e = h.back v in
          mem_select (is_required p) (mem_below {n = p.n} {k = v} (omega arith)) (subst T (required_same v) r.1)

      into : Memᴰ v (required p) → Memᴰ (π v) (required q)
      into m =
          let r = select_mem (is_required p) (below p.n) m in
          mem_select (is_required q) (mem_below (h.inside v (below_mem r.0))) (subst⁻¹ T (required_same v) r.1)

  -- by the new number
  pub required_of : {v : ℕ} → Memᴰ v (required q) → Memᴰ (σ v) (required p)
  required_of {v} m = (requireds (σ v)).0 (subst⁻¹ (λ z. Memᴰ z (required q)) (h.forth v) m)

-- ---- the components

both_renumbered : (π : ℕ → ℕ) (arcs : List Arc) → both_ways (map (renumbered_arc π) arcs) ≡ map (renumbered_arc π) (both_ways arcs)
unfolding both_ways
both_renumbered π [] = refl
both_renumbered π (a ∷ arcs) =
    ap (λ (l : List Arc). flat (π a.tail) (π a.head) ∷ flat (π a.head) (π a.tail) ∷ l) (both_renumbered π arcs)

module _ (p : Plan) (ok : WellFormed p) {π σ : ℕ → ℕ} (h : IsNumbering p.n π σ) where
  abbrev other : Plan
  other = renumbered p π

  ends : InPlan p
  ends = (bounded ok).ends

  other_ends : InPlan other
  other_ends = (bounded (renumbered_well_formed p h ok)).ends

  undirected_renumbered : undirected other other_ends ≡ map (renumbered_arc π) (undirected p ends)
  undirected_renumbered = ap both_ways (renumbered_required p π) ∙ both_renumbered π (required_arcs p)

  leads_back : (u v : ℕ) → Leads (undirected other other_ends) (π u) (π v) → Leads (undirected p ends) u v
  leads_back u v w =
      let r = subst (λ (arcs : List Arc). Leads arcs (π u) (π v)) undirected_renumbered w in
      (r.0, (walks (undirected p ends) π h u v r.0).0 r.1)

  leads_into : (u v : ℕ) → Leads (undirected p ends) u v → Leads (undirected other other_ends) (π u) (π v)
  leads_into u v w =
      subst⁻¹ (λ (arcs : List Arc). Leads arcs (π u) (π v)) undirected_renumbered (w.0, (walks (undirected p ends) π h u v w.0).1 w.1)

  -- in one component of one plan exactly when in one of the other
  pub components : {u v : ℕ} → Memᴰ u (required p) → Memᴰ v (required p)
      → (component other (π u) ≡ component other (π v)) ↔ (component p u ≡ component p v)
  components {u} {v} m n =
      let mu = (requireds p h u).1 m in
      let mv = (requireds p h v).1 n in (
        (λ e. walk_component p ends m n (leads_back u v (component_walk other other_ends mu mv e))),
        (λ e. walk_component other other_ends mu mv (leads_into u v (component_walk p ends m n e))),
      )

  count_le : component_count p ≤ component_count other
  count_le =
      let f : ℕ → ℕ = λ r. component other (π (get_or (lowest p) r 0)) in
      let b = differ_le f (component_count p) (below (component_count other))
      (λ r l. mem_below (component_lt other other_ends ((requireds p h _).1 (component_at p ends r l).0)))
      (λ r s l m e. let x = component_at p ends r l in let y = component_at p ends s m in
      sym x.1 ∙ (components x.0 y.0).0 e ∙ y.1) in
      let e = length_below (component_count other) in
      omega arith

-- k
pub count_renumbered : (p : Plan) → WellFormed p → {π σ : ℕ → ℕ} → IsNumbering p.n π σ
    → component_count (renumbered p π) ≡ component_count p
count_renumbered p ok {π} {σ} h =
    let a = count_le p ok h in
    let b = count_le (renumbered p π) (renumbered_well_formed p h ok) (inverse h) in
    let e = ap component_count (renumbered_back p h) in
    omega arith

-- ---- what is refused

cut_into : (p : Plan) {π σ : ℕ → ℕ} → IsNumbering p.n π σ → T (is_cut_off p) → T (is_cut_off (renumbered p π))
unfolding is_cut_off
cut_into p {π} h t =
    let q = renumbered p π in
    let r = any_of_at (λ i. any_of (λ j. not (has_path p i j)) (required p)) (required p) t in
    let s = any_of_at (λ j. not (has_path p r.0 j)) (required p) r.2 in
    any_of_mem (λ i. any_of (λ j. not (has_path q i j)) (required q)) ((requireds p h r.0).1 r.1)
    (any_of_mem (λ j. not (has_path q (π r.0) j)) ((requireds p h s.0).1 s.1)
    (subst⁻¹ (λ b. T (not b)) (path_renumbered p h r.0 s.0) s.2))

module _ (p : Plan) {π σ : ℕ → ℕ} (h : IsNumbering p.n π σ) where
  pub cut_renumbered : is_cut_off (renumbered p π) ≡ is_cut_off p
  cut_renumbered =
      same_test (is_cut_off (renumbered p π)) (is_cut_off p)
      (λ t. subst (λ (r : Plan). T (is_cut_off r)) (renumbered_back p h) (cut_into (renumbered p π) (inverse h) t)) (cut_into p h)

  module _ (ok : WellFormed p) where
    -- 10 and 11, and with 12
    pub parts_renumbered : parts_conditions (renumbered p π) ≡ parts_conditions p
    unfolding parts_conditions
    parts_renumbered = ap₂ (λ (a k : ℕ). (eqb a 0, 10) ∷ (ltb 8 k, 11) ∷ []) (renumbered_count p π) (count_renumbered p ok h)

    pub last_renumbered : last_conditions (renumbered p π) ≡ last_conditions p
    last_renumbered = ap₂ (λ (cs : Conditions) (b : Bool). cs ++ (b, 12) ∷ []) parts_renumbered cut_renumbered

  pub plannable_renumbered : Plannable p → Plannable (renumbered p π)
  plannable_renumbered ok =
      let e = renumbered_count p π in
      let l = ok.some_arc in
      record {
        well_formed = renumbered_well_formed p h ok.well_formed;
        some_arc = omega arith;
        connected = subst⁻¹ (λ b. T (not b)) cut_renumbered ok.connected;
      }
