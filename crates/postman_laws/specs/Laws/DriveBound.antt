-- For any drive there is an arborescence whose completion costs no more. Cut the drive into a route of links and required arcs; its first
-- entries are an arborescence; and the links that are left balance the required arcs with the arborescence counted.
use Rattle.std.specs.Prelude.{◌≡◌, ◌≢◌, ℕ, suc, ◌+◌, ◌-◌, ◌≤◌, ◌<◌, length}
use Rattle.std.proofs.Math.Path.{refl, ap, subst, subst⁻¹}
use Rattle.std.proofs.Common.{◌∙◌, inl, inr, one-add}
use mathlib.Core.List.Memᴰ
use mathlib.Core.List.{List, [], ◌∷◌, map, Memᴰ}
use native.Mathlib.Omega.{arith}
use Rattle.std.proofs.Math.ListN.{length-map}
use Rattle.postman.specs.Lists.{up_from, iterate, delta, occurrences}
use Rattle.postman.specs.Plan.{Arc, Plan, arc_at, required_arcs, required_numbers, WellFormed}
use Rattle.postman.specs.Drive.{walk_cost, drive_cost, IsDrive}
use Rattle.postman.specs.Distance.{distance}
use Rattle.postman.specs.Link.{Link, links}
use Rattle.postman.specs.Component.{component, component_count}
use Rattle.postman.specs.Arborescence.{link_at, Enters, IsArborescence, arborescences}
use Rattle.postman.specs.Balancing.{heads, tails, link_cost, least_balancing, completion_cost}
use Rattle.postman.specs.Laws.Membership.{up_from_mem, length_up_from, get_d_map_up_from}
use Rattle.postman.specs.Steps.{Permutation, Pick, here, there, none, more, IsRequiredNumber}
use Rattle.postman_laws.specs.Laws.Pick.{permutation_mem}
use Rattle.postman_laws.specs.Laws.Occurrences.{occurrences_append, occurrences_up_from, occurrences_map_permutation}
use Rattle.postman_laws.specs.Laws.Distance.{InPlan, bounded, triangle, distance_self}
use Rattle.postman_laws.specs.Laws.Required.{required_arc_of, required_mem, number_ends, mem_numbers, numbers_field}
use Rattle.postman_laws.specs.Laws.Component.{component_lt, component_at, arc_component}
use Rattle.postman_laws.specs.Laws.Assignment.{weight, legs_le}
use Rattle.postman_laws.specs.Laws.Balancing.{same_length}
use Rattle.postman_laws.specs.Laws.Arborescence.{mem_arborescences, joins}
use Rattle.postman_laws.specs.Laws.LinkLegs.{ends, Without, without_weight, extract, ends_heads, ends_tails, chain_weight, link_weight}
use Rattle.postman_laws.specs.Laws.Route.{Move, link, arc, route_links, route_arcs, IsRoute, route_cost, drive_route}
use Rattle.postman_laws.specs.Laws.Entries.{entry, entries, Good, follow}
use Rattle.postman_laws.specs.Laws.DriveCost.{drive_cost_lem}

pick_cost : (arcs : List Arc) {x : ℕ} {xs ys : List ℕ} → Pick x xs ys → walk_cost arcs xs ≡ (arc_at arcs x).cost + walk_cost arcs ys
pick_cost arcs (here e) = let h = ap (λ z. (arc_at arcs z).cost) e in omega arith
pick_cost arcs (there q) = let h = pick_cost arcs q in omega arith

permutation_cost : (arcs : List Arc) {xs ys : List ℕ} → Permutation xs ys → walk_cost arcs xs ≡ walk_cost arcs ys
permutation_cost arcs none = refl
permutation_cost arcs (more q s) = let h = permutation_cost arcs s in let k = pick_cost arcs q in omega arith

-- what a route enters it leaves, but for its two ends
route_balance : (p : Plan) (v i j : ℕ) (ms : List Move) → IsRoute p i ms j
    → weight (λ a b. delta v b) (ends (route_links ms)) + occurrences v (map (λ k. (arc_at p.arcs k).head) (route_arcs ms)) + delta v i
    ≡ weight (λ a b. delta v a) (ends (route_links ms)) + occurrences v (map (λ k. (arc_at p.arcs k).tail) (route_arcs ms)) + delta v j
unfolding weight ends occurrences
route_balance p v i j [] h = let e = ap (delta v) h in omega arith
route_balance p v i j (link l ∷ ms) h = let r = route_balance p v l.head j ms h.2 in let e = ap (delta v) h.0 in omega arith
route_balance p v i j (arc k ∷ ms) h = let r = route_balance p v (arc_at p.arcs k).head j ms h.2 in let e = ap (delta v) h.0 in
    omega arith

-- a required arc of component q starts there
arc_in_lem : (p : Plan) → InPlan p → (q : ℕ) → q < component_count p
    → (k : ℕ) × IsRequiredNumber p k × (component p (arc_at p.arcs k).tail ≡ q)
arc_in_lem p ok q l =
    let v = component_at p ok q l in
    let k = required_arc_of p v.0 in (
      k.0,
      k.1,
      elim k.2 [
        | inl y ↦ ap (component p) y ∙ v.1
        | inr y ↦ arc_component p ok (required_mem p k.0 k.1) ∙ ap (component p) y ∙ v.1
      ],
    )

module _ (p : Plan) (ok : InPlan p) (ms : List Move) (x : ℕ) (route : IsRoute p x ms x)
    (perm : Permutation (route_arcs ms) (required_numbers p)) (root : component p x ≡ 0) where
  abbrev whole : List Link
  whole = route_links ms

  abbrev k : ℕ
  k = component_count p

  abbrev t : List Link
  t = entries p whole

  -- the route enters every component
  good : (q : ℕ) → q < k → Good p whole q
  unfolding iterate
  good q l =
      let r = follow p ok whole ms [] (0 ∷ []) x x route refl (λ l m. absurd (Memᴰ.not-nil m))
      (λ s m. subst⁻¹ (Good p whole) (Memᴰ.eq_of_singleton m) (record { back = (0, refl); found = λ n. absurd (n refl) }))
      (Memᴰ.head root) (Memᴰ.head refl) in
      let a = arc_in_lem p ok q l in
      subst (Good p whole) a.2 (r.1 _ (r.3 a.0 (permutation_mem perm (mem_numbers p a.1))))

  size : length t ≡ k - 1
  unfolding entries
  size = length-map (up_from 1 (k - 1)) (entry p whole) ∙ length_up_from 1 (k - 1)

  entry_at : (q : ℕ) → q < k - 1 → link_at t q ≡ entry p whole (suc q)
  unfolding entries
  entry_at q l = get_d_map_up_from (entry p whole) 1 (k - 1) q _ l ∙ ap (entry p whole) (one-add q)

  found : (q : ℕ) → q < k - 1
      → Memᴰ (entry p whole (suc q)) whole × Memᴰ (entry p whole (suc q)) (links p)
      × (component p (entry p whole (suc q)).head ≡ suc q) × (component p (entry p whole (suc q)).tail ≢ suc q)
  found q l = (good (suc q) (omega arith)).found (λ e. (let z : suc q ≡ 0 = e in omega arith))

  pub is_arborescence : IsArborescence p t
  is_arborescence = record {
    size = size;
    enters = λ q l. (let n = size in let b : q < k - 1 = omega arith in let f = found q b in
        subst⁻¹ (Enters p (suc q)) (entry_at q b) (record { is_link_holds = f.1; head = f.2; tail = f.3 }));
    back = λ q l. (good q l).back;
  }

  -- the links of the route without the arborescence
  rest : (ls : List Link) × Without t whole ls
  unfolding entries
  rest = extract (entry p whole) (component p) (up_from 1 (k - 1)) whole
      (λ q m. (let b = up_from_mem 1 (k - 1) m in let f = (good q (omega arith)).found (λ e. (omega arith)) in (f.0, f.2)))
      (λ q. occurrences_up_from q 1 (k - 1))

  pub completion_le : link_cost p t + least_balancing p t + walk_cost p.arcs (required_numbers p) ≤ route_cost p ms
  unfolding least_balancing heads tails
  completion_le =
      let s = rest in
      let b = legs_le (distance p) (triangle p ok) (distance_self p ok) (ends s.0) (heads p t) (tails p t)
      (same_length p ok t (joins p is_arborescence)) (λ i.
      let h₁ = without_weight (λ a b. delta i b) s.1 in
      let h₂ = without_weight (λ a b. delta i a) s.1 in
      let h₃ = route_balance p i x x ms route in
      let h₄ = occurrences_map_permutation i (λ k. (arc_at p.arcs k).head) perm ∙ ap (occurrences i) (numbers_field p (λ a. a.head)) in
      let h₅ = occurrences_map_permutation i (λ k. (arc_at p.arcs k).tail) perm ∙ ap (occurrences i) (numbers_field p (λ a. a.tail)) in
      let h₆ = occurrences_append i (map (λ a. a.head) (required_arcs p)) (map (λ l. l.head) t) in
      let h₇ = occurrences_append i (map (λ a. a.tail) (required_arcs p)) (map (λ l. l.tail) t) in
      let h₈ = ends_heads i t in
      let h₉ = ends_tails i t in
      omega arith) in
      let c₁ = without_weight (distance p) s.1 in
      let c₂ = link_weight p t in
      let c₃ = chain_weight p whole in
      let c₄ = permutation_cost p.arcs perm in
      omega arith

-- for any drive there is an arborescence whose completion costs no more
pub arborescence_of_drive : (p : Plan) → WellFormed p → (j : ℕ) → IsRequiredNumber p j → (w : List ℕ) → IsDrive p w
    → (t : List Link) × Memᴰ t (arborescences p) × (completion_cost p t ≤ drive_cost p w)
unfolding completion_cost
arborescence_of_drive p ok j some w h =
    let i = (bounded ok).ends in
    let l = component_lt p i (number_ends p i some).0 in
    let a = arc_in_lem p i 0 (omega arith) in
    let r = drive_route p ok h a.0 a.1 in
    let x = (arc_at p.arcs a.0).tail in
    let b = completion_le p i r.0 x r.1 r.3 a.2 in
    let c = r.2 in
    let d = drive_cost_lem p h in (
      entries p (route_links r.0),
      mem_arborescences p i (is_arborescence p i r.0 x r.1 r.3 a.2),
      omega arith,
    )
