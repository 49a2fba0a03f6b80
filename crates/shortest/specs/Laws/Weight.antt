-- A walk of a plan is one of the weighted plan, of weight 64 × its cost + its number of arcs. Cut to n − 1 ≤ 63 arcs, a lightest one is a
-- cheapest one: so d is a 64th of the least weight, rounded down. Nothing here uses that costs are positive.
use Rattle.std.specs.Prelude.{◌≡◌, refl, ℕ, zero, suc, ◌+◌, ◌*◌, ◌/◌, ◌≤◌, ◌<◌, length, T, ltb}
use Rattle.std.proofs.Common.{sym, ◌∙◌, subst, ltb→lt}
use Rattle.std.proofs.Math.Path.{ap, subst⁻¹}
use mathlib.Core.List.{List, [], ◌∷◌, map, Memᴰ}
use Rattle.std.proofs.Math.Decide.{dec_le, ℕ_discrete}
use native.Mathlib.Omega.{arith}
use Rattle.std.proofs.lemmas.List.{length-map}
use Rattle.std.proofs.Math.Dec.{nltb→le}
use Rattle.postman.specs.Plan.{Arc, Plan, is_open, arc_at, WellFormed}
use Rattle.postman.specs.Drive.{IsWalk, walk_cost}
use Rattle.postman.specs.Distance.{no_path, distance}
use Rattle.postman.specs.Laws.Tests.{cond_ind}
use Rattle.postman.specs.Laws.Membership.{get_d_mem, map_mem}
use Rattle.postman_laws.specs.Laws.Distance.{InPlan, bounded, distance_self, distance_le, distance_walk, distance_bound, distance_le_no_path}
use Rattle.shortest.specs.Weight.{heavy, weighted, unweighted}
use Rattle.shortest.specs.Weight.{entered}
use Rattle.shortest.specs.StepContracts.{IsRow, IsTable, AreWeights, AreCosts, AreTableCosts}

-- what relaxing, and a path by the arcs that begin a cheapest one, ask of a plan
pub record IsWeighted (p : Plan) : Type 0 where
  pub ends : InPlan p
  pub vertices : p.n ≤ 64
  pub weighs : (a : Arc) → Memᴰ a p.arcs → 1 ≤ a.cost

-- ---- arcs and walks

pub heavy_at : (arcs : List Arc) (k : ℕ) → k < length arcs → arc_at (map heavy arcs) k ≡ heavy (arc_at arcs k)
heavy_at [] k l = absurd (omega arith)
heavy_at (a ∷ arcs) zero l = refl
heavy_at (a ∷ arcs) (suc k) l = heavy_at arcs k (omega arith)

module _ (arcs : List Arc) where
  pub to_weighted : (i j : ℕ) (w : List ℕ) → IsWalk arcs i w j → IsWalk (map heavy arcs) i w j
  to_weighted i j [] h = h
  to_weighted i j (k ∷ w) h =
      let n = length-map arcs heavy in
      let r = subst⁻¹ (λ (a : Arc). T (is_open a) × (a.tail ≡ i) × IsWalk (map heavy arcs) a.head w j) (heavy_at arcs k h.0)
      (h.1, h.2, to_weighted (arc_at arcs k).head j w h.3) in
      (omega (arith, h.0), r.0, r.1, r.2)

  pub of_weighted : (i j : ℕ) (w : List ℕ) → IsWalk (map heavy arcs) i w j → IsWalk arcs i w j
  of_weighted i j [] h = h
  of_weighted i j (k ∷ w) h =
      let n = length-map arcs heavy in
      let l : k < length arcs = omega (arith, h.0) in
      let r = subst (λ (a : Arc). T (is_open a) × (a.tail ≡ i) × IsWalk (map heavy arcs) a.head w j) (heavy_at arcs k l)
      (h.1, h.2, h.3) in
      (l, r.0, r.1, of_weighted (arc_at arcs k).head j w r.2)

  pub walk_weight : (i j : ℕ) (w : List ℕ) → IsWalk arcs i w j → walk_cost (map heavy arcs) w ≡ 64 * walk_cost arcs w + length w
  walk_weight i j [] h = omega arith
  walk_weight i j (k ∷ w) h =
      let e = ap (λ (a : Arc). a.cost) (heavy_at arcs k h.0) in
      let r = walk_weight (arc_at arcs k).head j w h.3 in
      omega arith

  pub same_entered : (i j : ℕ) (w : List ℕ) → IsWalk arcs i w j → entered (map heavy arcs) w ≡ entered arcs w
  same_entered i j [] h = refl
  same_entered i j (k ∷ w) h = rw (heavy_at arcs k h.0, same_entered (arc_at arcs k).head j w h.3)

-- ---- the weighted plan

module _ (p : Plan) (ok : WellFormed p) where
  pub is_weighted : IsWeighted (weighted p)
  is_weighted = record {
    ends = λ a m. (
        let r = map_mem heavy p.arcs m in
        subst⁻¹ (λ (a : Arc). (a.tail < p.n) × (a.head < p.n)) r.2 ((bounded ok).ends r.0 r.1));
    vertices = ok.vertices;
    weighs = λ a m. (let r = map_mem heavy p.arcs m in let e = ap (λ (a : Arc). a.cost) r.2 in omega arith);
  }

  ends : InPlan p
  ends = (bounded ok).ends

  -- where there is a walk, there is a weight: at most 63 × 4,194,241
  pub weight_finite : (i j : ℕ) (w : List ℕ) → i < p.n → IsWalk p.arcs i w j → distance (weighted p) i j < no_path
  unfolding no_path
  weight_finite i j w l h =
      let b = distance_bound (weighted p) is_weighted.ends 4194241 small i j w l (to_weighted p.arcs i j w h) in
      let n = ok.vertices in
      omega arith
    where
      small : (a : Arc) → Memᴰ a (weighted p).arcs → a.cost ≤ 4194241
      small a m =
          let r = map_mem heavy p.arcs m in
          let e = ap (λ (a : Arc). a.cost) r.2 in
          let c = (ok.each r.0 r.1).cost_in_holds in
          omega arith

  -- a path is of either plan
  pub weight_path : (i j : ℕ) → i < p.n → distance p i j < no_path → distance (weighted p) i j < no_path
  weight_path i j l h = let r = distance_walk p ends i j h in weight_finite i j r.0 l r.1

  -- a lightest walk, of at most 63 arcs, costs d
  pub least_cost : (i j : ℕ) (w : List ℕ) → i < p.n → IsWalk p.arcs i w j → walk_cost (weighted p).arcs w ≡ distance (weighted p) i j
      → length w ≤ 63
      → walk_cost p.arcs w ≡ distance p i j
  least_cost i j w l h e s =
      let a = distance_le p ends i j w l h in
      let b = walk_weight p.arcs i j w h in
      elim (dec_le no_path (distance p i j)) [
        | yes g ↦ absurd (let r = below_no_path in omega arith)
        | no g ↦
            let v = distance_walk p ends i j (omega arith) in
            let n = ok.vertices in
            let c = v.2 in
            let d = v.3 in
            let f = walk_weight p.arcs i j v.0 v.1 in
            let m = distance_le (weighted p) is_weighted.ends i j v.0 l (to_weighted p.arcs i j v.0 v.1) in
            omega arith
      ]
    where
      below_no_path : walk_cost p.arcs w < no_path
      below_no_path = let f = weight_finite i j w l h in let b = walk_weight p.arcs i j w h in omega arith

  -- no walk but the empty one leaves what is no vertex
  outside : (arcs : List Arc) (n i j : ℕ) (w : List ℕ) → ((a : Arc) → Memᴰ a arcs → (a.tail < n) × (a.head < n)) → n ≤ i
      → IsWalk arcs i w j → i ≡ j
  outside arcs n i j [] o l h = h
  outside arcs n i j (k ∷ w) o l h = let a = (o (arc_at arcs k) (get_d_mem arcs _ k h.0)).0 in let e = h.2 in absurd (omega arith)

  no_path_big : 0 < no_path
  unfolding no_path
  no_path_big = omega arith

  -- d by the weight
  pub distance_weight : (i j : ℕ) → distance p i j ≡ unweighted (distance (weighted p) i j)
  unfolding unweighted
  distance_weight i j = elim (ℕ_discrete i j) [
    | yes e ↦ (
        let a = distance_self p ends i in
        let b = distance_self (weighted p) is_weighted.ends i in
        let c = ap (distance p i) e in
        let d = ap (distance (weighted p) i) e in
        cond_ind (ltb (distance (weighted p) i j) no_path) (distance (weighted p) i j / 64) no_path (λ x. distance p i j ≡ x)
        (λ t. omega arith) (λ t. let g = nltb→le (distance (weighted p) i j) no_path t in absurd (let z = no_path_big in omega arith)))
    | no n ↦ cond_ind (ltb (distance (weighted p) i j) no_path) (distance (weighted p) i j / 64) no_path (λ x. distance p i j ≡ x)
        (λ t. known n (ltb→lt (distance (weighted p) i j) no_path t))
        (λ t. unknown n (nltb→le (distance (weighted p) i j) no_path t))
  ]
    where
      known : (i ≡ j → ⊥) → distance (weighted p) i j < no_path → distance p i j ≡ distance (weighted p) i j / 64
      known n h =
          let r = distance_walk (weighted p) is_weighted.ends i j h in
          elim (dec_le p.n i) [
            | yes l ↦ absurd (n (outside (weighted p).arcs p.n i j r.0 is_weighted.ends l r.1))
            | no l ↦
                let w = of_weighted p.arcs i j r.0 r.1 in
                let v = ok.vertices in
                let s = r.2 in
                let c = r.3 in
                let b = walk_weight p.arcs i j r.0 w in
                let e = least_cost i j r.0 (omega arith) w c (omega arith) in
                omega arith
          ]

      unknown : (i ≡ j → ⊥) → no_path ≤ distance (weighted p) i j → distance p i j ≡ no_path
      unknown n h = elim (dec_le no_path (distance p i j)) [
        | yes g ↦ let b = distance_le_no_path p ends i j in omega arith
        | no g ↦
            let r = distance_walk p ends i j (omega arith) in
            elim (dec_le p.n i) [
              | yes l ↦ absurd (n (outside p.arcs p.n i j r.0 ends l r.1))
              | no l ↦ absurd (let f = weight_finite i j r.0 (omega arith) r.1 in omega arith)
            ]
      ]

  -- ---- what is asked of a row and of a table of costs

  pub row_costs : (source : ℕ) (weights costs : List ℕ) → IsRow (weighted p) source weights → AreCosts weights costs → IsRow p source costs
  row_costs source weights costs h g j l = g j l ∙ ap unweighted (h j l) ∙ sym (distance_weight source j)

  pub table_costs : (weights costs : List (List ℕ)) → AreWeights p weights → AreTableCosts weights costs → IsTable p costs
  table_costs weights costs h g i j k l = g i k j l ∙ ap unweighted (h i j k l) ∙ sym (distance_weight i j)
