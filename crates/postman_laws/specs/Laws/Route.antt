-- A drive as a route of links and required arcs: each required arc once, and the links between them cost no more than the
-- rest of the drive. Walk along the drive from a required arc, mark the first pass of each required arc, and replace each
-- stretch between two of them by its chain of links.
use Rattle.std.specs.Prelude.{◌≡◌, refl, ℕ, ◌+◌, ◌≤◌}
use Rattle.std.proofs.Common.{sym, ap, ◌∙◌, subst, inl, inr, le_refl, arith}
use Rattle.std.proofs.Math.Path.{subst⁻¹}
use mathlib.Core.List.Memᴰ
use mathlib.Core.List.{List, [], ◌∷◌, ◌++◌, Memᴰ}
use Rattle.std.proofs.Math.Decide.{dec_le}
use Rattle.postman.specs.Lists.{occurrences}
use Rattle.postman.specs.Plan.{Plan, arc_at, required_numbers, WellFormed}
use Rattle.postman.specs.Drive.{IsWalk, walk_cost, IsDrive}
use Rattle.postman.specs.Required.{required}
use Rattle.postman.specs.Link.{Link, links}
use Rattle.postman.specs.Steps.{Permutation, none, more, IsRequiredNumber}
use Rattle.postman_laws.specs.Laws.Pick.{pick_of_mem, left_mem}
use Rattle.postman_laws.specs.Laws.Occurrences.{delta_yes, mem_of_occurrences, occurrences_of_mem, occurrences_pick}
use Rattle.postman_laws.specs.Laws.Distance.{InPlan, bounded, distance_le, walk_append, cost_append}
use Rattle.postman_laws.specs.Laws.Required.{required_lt, number_ends, numbers_mem, numbers_once}
use Rattle.postman_laws.specs.Laws.Link.{IsChain, chain_cost, chain}

pub data Move : Type 0 where
  link : Link → Move
  arc : ℕ → Move

abbrev pub route_links : List Move → List Link
route_links [] = []
route_links (link l ∷ ms) = l ∷ route_links ms
route_links (arc k ∷ ms) = route_links ms

abbrev pub route_arcs : List Move → List ℕ
route_arcs [] = []
route_arcs (link l ∷ ms) = route_arcs ms
route_arcs (arc k ∷ ms) = k ∷ route_arcs ms

module _ (p : Plan) where
  abbrev pub source : Move → ℕ
  source (link l) = l.tail
  source (arc k) = (arc_at p.arcs k).tail

  abbrev pub target : Move → ℕ
  target (link l) = l.head
  target (arc k) = (arc_at p.arcs k).head

  abbrev pub Fine : Move → Type 0
  Fine (link l) = Memᴰ l (links p)
  Fine (arc k) = IsRequiredNumber p k

  abbrev pub IsRoute : ℕ → List Move → ℕ → Type 0
  IsRoute i [] j = i ≡ j
  IsRoute i (m ∷ ms) j = (source m ≡ i) × Fine m × IsRoute (target m) ms j

  abbrev pub route_cost : List Move → ℕ
  route_cost ms = chain_cost p (route_links ms) + walk_cost p.arcs (route_arcs ms)

  abbrev pub Route : ℕ → ℕ → List ℕ → ℕ → Type 0
  Route i j ks c = (ms : List Move) × IsRoute i ms j × (route_cost ms ≤ c) × Permutation (route_arcs ms) ks

module _ (p : Plan) (ok : WellFormed p) where
  ends : InPlan p
  ends = (bounded ok).ends

  -- a chain of links, and then a route
  along : (i j e : ℕ) (ls : List Link) (ks : List ℕ) (c : ℕ) → IsChain p i ls j → Route p j e ks c → Route p i e ks (chain_cost p ls + c)
  along i j e [] ks c h r = (r.0, subst⁻¹ (λ z. IsRoute p z r.0 e) h r.1, (let x = r.2 in omega arith), r.3)
  along i j e (l ∷ ls) ks c h r =
      let s = along l.head j e ls ks c h.2 r in
      let x = s.2 in
      (link l ∷ s.0, (h.0, h.1, s.1), omega arith, s.3)

  leg : (i j e : ℕ) (u ks : List ℕ) (c : ℕ) → Memᴰ i (required p) → Memᴰ j (required p) → IsWalk p.arcs i u j
      → Route p j e ks c → Route p i e ks (walk_cost p.arcs u + c)
  leg i j e u ks c mi mj h r =
      let x = chain p ok i j mi mj in
      let s = along i j e x.0 ks c x.1 r in
      let d = distance_le p ends i j u (required_lt p mi) h in
      let f = x.2 in
      let g = s.2 in
      (s.0, s.1, omega arith, s.3)

  abbrev Sought : List ℕ → List ℕ → Type 0
  Sought ks w = (k : ℕ) → Memᴰ k ks → Memᴰ k w × IsRequiredNumber p k

  -- a walk on from v, reached from the required vertex i by u, in which the required arcs ks occur
  scan : (w ks u : List ℕ) (i v e : ℕ) → IsWalk p.arcs v w e → IsWalk p.arcs i u v → Memᴰ i (required p)
      → Memᴰ e (required p)
      → ((k : ℕ) → occurrences k ks ≤ 1) → Sought ks w → Route p i e ks (walk_cost p.arcs u + walk_cost p.arcs w)
  scan [] [] u i v e h g mi me o m = leg i e e u [] 0 mi me (subst (λ z. IsWalk p.arcs i u z) h g) ([], refl, le_refl 0, none)
  scan [] (k ∷ ks) u i v e h g mi me o m = absurd (Memᴰ.not-nil (m k (Memᴰ.head refl)).0)
  scan (a ∷ w) ks u i v e h g mi me o m = elim (dec_le 1 (occurrences a ks)) [
    | yes c ↦
        let q = pick_of_mem (mem_of_occurrences a ks c) in
        let f = (m a (mem_of_occurrences a ks c)).1 in
        let x = number_ends p ends f in
        let m' : Sought q.0 w = λ k n. (let z = m k (left_mem q.1 n) in (
          elim (Memᴰ.cases_cons z.0) [
            | inl y ↦ let b = occurrences_of_mem n in let d = occurrences_pick k q.1 in let s = delta_yes y in let l = o k in
                absurd (omega arith)
            | inr y ↦ y
          ],
          z.1,
        )) in
        let r = scan w q.0 [] (arc_at p.arcs a).head (arc_at p.arcs a).head e h.3 refl x.1 me
        (λ k. let l = o k in let d = occurrences_pick k q.1 in omega arith) m' in
        let y = r.2 in
        leg i (arc_at p.arcs a).tail e u ks ((arc_at p.arcs a).cost + walk_cost p.arcs w) mi x.0
        (subst⁻¹ (λ z. IsWalk p.arcs i u z) h.2 g)
        (arc a ∷ r.0, (refl, f, r.1), omega arith, more q.1 r.3)
    | no c ↦
        let m' : Sought ks w = λ k n. (let z = m k n in (
          elim (Memᴰ.cases_cons z.0) [
            | inl y ↦ let b = occurrences_of_mem n in let d = ap (λ t. occurrences t ks) y in absurd (omega arith)
            | inr y ↦ y
          ],
          z.1,
        )) in
        let r = scan w ks (u ++ a ∷ []) i (arc_at p.arcs a).head e h.3
        (walk_append p.arcs i v (arc_at p.arcs a).head u (a ∷ []) g (h.0, h.1, h.2, refl)) mi me o m' in
        let x = cost_append p.arcs u (a ∷ []) in
        let y = r.2 in
        (r.0, r.1, omega arith, r.3)
  ]

  -- a walk, cut before one of its arcs
  pub cut_at : {k : ℕ} (x y : ℕ) {w : List ℕ} → Memᴰ k w → IsWalk p.arcs x w y
      → (u v : List ℕ) × IsWalk p.arcs x u (arc_at p.arcs k).tail × IsWalk p.arcs (arc_at p.arcs k).tail v y
      × (walk_cost p.arcs v + walk_cost p.arcs u ≡ walk_cost p.arcs w) × ((j : ℕ) → Memᴰ j w → Memᴰ j (v ++ u))
  cut_at {k} x y (Memᴰ.head {x = h} {xs = w} e) g = (
    [],
    h ∷ w,
    sym g.2 ∙ ap (λ z. (arc_at p.arcs z).tail) (sym e),
    subst⁻¹ (λ z. IsWalk p.arcs z (h ∷ w) y) (ap (λ z. (arc_at p.arcs z).tail) e ∙ g.2) g,
    (omega arith),
    λ j m. Memᴰ.append_left [] m,
  )
  cut_at {k} x y (Memᴰ.tail {x = h} {xs = w} n) g =
      let r = cut_at (arc_at p.arcs h).head y n g.3 in
      let c = r.4 in (
        h ∷ r.0,
        r.1,
        (g.0, g.1, g.2, r.2),
        r.3,
        (omega arith),
        λ j m. elim (Memᴰ.cases_cons m) [
          | inl e ↦ Memᴰ.append_right r.1 (Memᴰ.head e)
          | inr m' ↦ widen r.1 h r.0 (r.5 j m')
        ],
      )
    where
      widen : {j : ℕ} (v : List ℕ) (h : ℕ) (u : List ℕ) → Memᴰ j (v ++ u) → Memᴰ j (v ++ h ∷ u)
      widen v h u m =
          elim (Memᴰ.append_cases v m) [ inl a ↦ Memᴰ.append_left (h ∷ u) a | inr b ↦ Memᴰ.append_right v (Memᴰ.tail b) ]

  -- a drive as a route from any required arc on
  pub drive_route : {w : List ℕ} → IsDrive p w → (k : ℕ) → IsRequiredNumber p k
      → Route p (arc_at p.arcs k).tail (arc_at p.arcs k).tail (required_numbers p) (walk_cost p.arcs w)
  drive_route {w} h k f =
      let x = (arc_at p.arcs k).tail in
      let c = cut_at h.start h.start (h.covers k f.number f.must) h.leads_back in
      let e = (number_ends p ends f).0 in
      let v = walk_append p.arcs x h.start x c.1 c.0 c.3 c.2 in
      let r = scan (c.1 ++ c.0) (required_numbers p) [] x x x v refl e e (numbers_once p)
      (λ j m. (let g = numbers_mem p m in (c.5 j (h.covers j g.number g.must), g))) in
      let a = cost_append p.arcs c.1 c.0 in
      let b = c.4 in
      let d = r.2 in
      (r.0, r.1, omega arith, r.3)
