-- d is the least cost of all walks: a walk is cut at its vertices until it enters none twice, so that n − 1 arcs are enough, and the
-- recursion tries every first arc. The triangle inequality is two walks put together. Nothing here uses that costs are positive.
use Rattle.std.specs.Prelude.{◌≡◌, ◌⊎◌, ◌&&◌, T}
use Rattle.std.proofs.Math.Path.{refl, subst, subst⁻¹}
use Rattle.std.proofs.Common.{ap, inl, inr, mul-le-mul_right, T_not, ltb→lt}
use mathlib.Core.List.{List, [], ◌∷◌, ◌++◌, Memᴰ}
use Prim.Native.Nat.{ℕ, zero, suc, ◌+◌, ◌-◌, ◌*◌, ◌≤◌, ◌<◌, zero-le, suc-le-suc}
use Rattle.std.proofs.Math.Nat.{le_refl, le_trans, suc-mul}
use Rattle.std.proofs.Math.Decide.{dec_le}
use native.Mathlib.Omega.{arith}
use Rattle.std.proofs.Math.ListN.{length}
use Rattle.std.proofs.Math.Dec.{eqb, eqb→eq, lt→ltb}
use Rattle.postman.specs.Lists.{below, least}
use Rattle.postman.specs.Plan.{Arc, Plan, is_open, arc_at, WellFormed}
use Rattle.postman.specs.Drive.{IsWalk, walk_cost}
use Rattle.postman.specs.Distance.{no_path, arcs_from, distance_within, distance, has_path}
use Rattle.postman.specs.Laws.Tests.{cond_ind, and_both, and_parts, eqb_same}
use Rattle.postman.specs.Laws.Membership.{mem_select, select_mem, get_d_mem, mem_get_d, mem_below, length_below}
use Rattle.postman_laws.specs.Laws.Minimum.{least_le, least_le_base, least_at}
use Rattle.postman.specs.Steps.{Pick}
use Rattle.postman_laws.specs.Laws.Pick.{pick_cases, pick_length, pick_of_mem}

module _ (arcs : List Arc) where
  mem_arcs_from : {a : Arc} (i : ℕ) → Memᴰ a arcs → T (is_open a) → a.tail ≡ i → Memᴰ a (arcs_from arcs i)
  unfolding arcs_from
  mem_arcs_from {a} i m o e = mem_select (λ b. is_open b && eqb b.tail i) m (and_both (is_open a) (eqb a.tail i) o (eqb_same e))

  arcs_from_mem : {a : Arc} (i : ℕ) → Memᴰ a (arcs_from arcs i) → Memᴰ a arcs × T (is_open a) × (a.tail ≡ i)
  unfolding arcs_from
  arcs_from_mem {a} i m =
      let r = select_mem (λ b. is_open b && eqb b.tail i) arcs m in
      let b = and_parts (is_open a) (eqb a.tail i) r.1 in
      (r.0, b.0, eqb→eq a.tail i b.1)

  abbrev via : ℕ → ℕ → Arc → ℕ
  via k j a = a.cost + distance_within arcs k a.head j

  self : (k i j : ℕ) → i ≡ j → distance_within arcs k i j ≡ 0
  unfolding distance_within
  self zero i j e = cond_ind (eqb i j) 0 no_path (λ x. x ≡ 0) (λ t. refl) (λ t. absurd (T_not (eqb i j) t (eqb_same e)))
  self (suc k) i j e =
      cond_ind (eqb i j) 0 (least no_path (via k j) (arcs_from arcs i)) (λ x. x ≡ 0) (λ t. refl)
      (λ t. absurd (T_not (eqb i j) t (eqb_same e)))

  -- a walk of at most k arcs costs at least dist_within k
  pub within_le : (k i j : ℕ) (w : List ℕ) → IsWalk arcs i w j → length w ≤ k → distance_within arcs k i j ≤ walk_cost arcs w
  unfolding distance_within arcs_from
  within_le k i j [] e l = let z = self k i j e in omega arith
  within_le zero i j (a ∷ w) h l = absurd (omega arith)
  within_le (suc k) i j (a ∷ w) h l =
      cond_ind (eqb i j) 0 (least no_path (via k j) (arcs_from arcs i)) (λ x. x ≤ walk_cost arcs (a ∷ w)) (λ t. zero-le)
      (λ t. let ih = within_le k (arc_at arcs a).head j w h.3 (omega arith) in
      let m : least no_path (via k j) (arcs_from arcs i) ≤ via k j (arc_at arcs a) =
      least_le no_path (via k j) (mem_arcs_from {a = arc_at arcs a} i (get_d_mem arcs _ a h.0) h.1 h.2) in
      omega arith)

  -- and some walk of at most k arcs costs just that, unless there is no path
  abbrev Walks : ℕ → ℕ → ℕ → ℕ → Type 0
  Walks k i j c = (w : List ℕ) × IsWalk arcs i w j × (length w ≤ k) × (walk_cost arcs w ≡ c)

  cons_walk : (i j k c : ℕ) (a : Arc) → Memᴰ a arcs → T (is_open a) → a.tail ≡ i → Walks k a.head j c
      → Walks (suc k) i j (a.cost + c)
  cons_walk i j k c a m o t r =
      let x = mem_get_d _ m in
      let y : T (is_open (arc_at arcs x.0)) × ((arc_at arcs x.0).tail ≡ i) × IsWalk arcs (arc_at arcs x.0).head r.0 j
      × ((arc_at arcs x.0).cost ≡ a.cost)
      = subst⁻¹ (λ (b : Arc). T (is_open b) × (b.tail ≡ i) × IsWalk arcs b.head r.0 j × (b.cost ≡ a.cost)) x.2
      (o, t, r.1, refl) in
      (x.0 ∷ r.0, (x.1, y.0, y.1, y.2), suc-le-suc r.2, omega arith)

  pub within_walk : (k i j : ℕ) → distance_within arcs k i j < no_path → Walks k i j (distance_within arcs k i j)
  unfolding distance_within arcs_from
  within_walk zero i j =
      cond_ind (eqb i j) 0 no_path (λ x. x < no_path → Walks zero i j x) (λ t h. ([], eqb→eq i j t, zero-le, refl))
      (λ t h. absurd (omega arith))
  within_walk (suc k) i j =
      cond_ind (eqb i j) 0 (least no_path (via k j) (arcs_from arcs i)) (λ x. x < no_path → Walks (suc k) i j x)
      (λ t h. ([], eqb→eq i j t, zero-le, refl))
      (λ t h. let r = least_at no_path (via k j) (arcs_from arcs i) h in
      let e = r.2 in
      let f = arcs_from_mem i r.1 in
      let ih = within_walk k r.0.head j (omega arith) in
      subst (Walks (suc k) i j) e (cons_walk i j k _ r.0 f.0 f.1 f.2 ih))

  within_le_no_path : (k i j : ℕ) → distance_within arcs k i j ≤ no_path
  unfolding distance_within
  within_le_no_path zero i j = cond_ind (eqb i j) 0 no_path (λ x. x ≤ no_path) (λ t. zero-le) (λ t. le_refl no_path)
  within_le_no_path (suc k) i j =
      cond_ind (eqb i j) 0 (least no_path (via k j) (arcs_from arcs i)) (λ x. x ≤ no_path) (λ t. zero-le)
      (λ t. least_le_base no_path (via k j) (arcs_from arcs i))

  pub walk_append : (i j k : ℕ) (v w : List ℕ) → IsWalk arcs i v j → IsWalk arcs j w k → IsWalk arcs i (v ++ w) k
  walk_append i j k [] w e h = subst⁻¹ (λ z. IsWalk arcs z w k) e h
  walk_append i j k (a ∷ v) w g h = (g.0, g.1, g.2, walk_append (arc_at arcs a).head j k v w g.3 h)

  pub cost_append : (v w : List ℕ) → walk_cost arcs (v ++ w) ≡ walk_cost arcs v + walk_cost arcs w
  cost_append [] w = omega arith
  cost_append (a ∷ v) w = let e = cost_append v w in omega arith

  -- ---- a walk cut to one that enters no vertex twice

  abbrev HeadsIn : List ℕ → List ℕ → Type 0
  HeadsIn vs [] = Unit {0}
  HeadsIn vs (k ∷ w) = Memᴰ (arc_at arcs k).head vs × HeadsIn vs w

  -- a walk from i to j that enters vertices of vs only and costs at most c
  abbrev Cheap : List ℕ → ℕ → ℕ → ℕ → Type 0
  Cheap vs i j c = (w : List ℕ) × IsWalk arcs i w j × HeadsIn vs w × (walk_cost arcs w ≤ c)

  -- a walk that enters vertices of vs: it does not enter i, or else it is cut to what follows its last visit of i
  last_visit : {vs us : List ℕ} {i : ℕ} → Pick i vs us → (v j : ℕ) (w : List ℕ) → IsWalk arcs v w j → HeadsIn vs w
      → HeadsIn us w ⊎ Cheap us i j (walk_cost arcs w)
  last_visit p v j [] h m = inl tt
  last_visit {us = us} {i = i} p v j (k ∷ w) h m =
      elim (last_visit p (arc_at arcs k).head j w h.3 m.1) [
        | inl n ↦ elim (pick_cases p m.0) [
          | inl e ↦ inr (w, subst (λ z. IsWalk arcs z w j) e h.3, n, omega arith)
          | inr n₀ ↦ inl (n₀, n)
        ]
        | inr r ↦ inr (r.0, r.1, r.2, (let l = r.3 in omega arith))
      ]

  abbrev Short : ℕ → ℕ → ℕ → ℕ → Type 0
  Short n i j c = (w : List ℕ) × IsWalk arcs i w j × (length w ≤ n) × (walk_cost arcs w ≤ c)

  after_last : {vs us : List ℕ} {i : ℕ} → Pick i vs us → (j : ℕ) (w : List ℕ) → IsWalk arcs i w j → HeadsIn vs w
      → Cheap us i j (walk_cost arcs w)
  after_last {i = i} p j w h m = elim (last_visit p i j w h m) [ inl n ↦ (w, h, n, le_refl _) | inr r ↦ r ]

  shorten : (n : ℕ) (us : List ℕ) → length us ≤ n → (i j : ℕ) (w : List ℕ) → IsWalk arcs i w j → HeadsIn us w
      → Short n i j (walk_cost arcs w)
  shorten zero us l i j [] h m = ([], h, zero-le, le_refl 0)
  shorten (suc n) us l i j [] h m = ([], h, zero-le, le_refl 0)
  shorten zero us l i j (k ∷ w) h m = let p = pick_length (pick_of_mem m.0).1 in absurd (omega arith)
  shorten (suc n) us l i j (k ∷ w) h m =
      let p = pick_of_mem m.0 in
      let e = pick_length p.1 in
      let r = after_last p.1 j w h.3 m.1 in
      let s = shorten n p.0 (omega arith) (arc_at arcs k).head j r.0 r.1 r.2 in
      let c = r.3 in
      let d = s.3 in
      (k ∷ s.0, (h.0, h.1, h.2, s.1), suc-le-suc s.2, omega arith)

-- the ends of a plan's arcs are vertices
abbrev pub InPlan : Plan → Type 0
InPlan p = (a : Arc) → Memᴰ a p.arcs → (a.tail < p.n) × (a.head < p.n)

module _ (p : Plan) (ok : InPlan p) where
  heads_in : (i j : ℕ) (w : List ℕ) → IsWalk p.arcs i w j → HeadsIn p.arcs (below p.n) w
  heads_in i j [] h = tt
  heads_in i j (k ∷ w) h = (mem_below (ok _ (get_d_mem p.arcs _ k h.0)).1, heads_in (arc_at p.arcs k).head j w h.3)

  -- a walk can be cut to at most n - 1 arcs, at no more cost
  pub cut : (i j : ℕ) (w : List ℕ) → i < p.n → IsWalk p.arcs i w j → Short p.arcs (p.n - 1) i j (walk_cost p.arcs w)
  cut i j w l h =
      let q = pick_of_mem (mem_below l) in
      let e = pick_length q.1 in
      let b = length_below p.n in
      let r = after_last p.arcs q.1 j w h (heads_in i j w h) in
      let s = shorten p.arcs (p.n - 1) q.0 (omega arith) i j r.0 r.1 r.2 in
      let c = r.3 in
      let d = s.3 in
      (s.0, s.1, s.2, omega arith)

  -- every walk from i to j costs at least d(i, j)
  pub distance_le : (i j : ℕ) (w : List ℕ) → i < p.n → IsWalk p.arcs i w j → distance p i j ≤ walk_cost p.arcs w
  unfolding distance
  distance_le i j w l h =
      let s = cut i j w l h in
      le_trans (within_le p.arcs (p.n - 1) i j s.0 s.1 s.2) s.3

  -- d(i, j) is the cost of some walk, of at most n - 1 arcs, unless there is no path
  pub distance_walk : (i j : ℕ) → distance p i j < no_path → Walks p.arcs (p.n - 1) i j (distance p i j)
  unfolding distance
  distance_walk i j h = within_walk p.arcs (p.n - 1) i j h

  pub distance_self : (i : ℕ) → distance p i i ≡ 0
  unfolding distance
  distance_self i = self p.arcs (p.n - 1) i i refl

  pub distance_le_no_path : (i j : ℕ) → distance p i j ≤ no_path
  unfolding distance
  distance_le_no_path i j = within_le_no_path p.arcs (p.n - 1) i j

  -- a walk from what is no vertex has no arc
  no_walk : (i j : ℕ) (w : List ℕ) → p.n ≤ i → IsWalk p.arcs i w j → i ≡ j
  no_walk i j [] l h = h
  no_walk i j (k ∷ w) l h = let a = (ok (arc_at p.arcs k) (get_d_mem p.arcs _ k h.0)).0 in let e = h.2 in absurd (omega arith)

  pub triangle : (i k j : ℕ) → distance p i j ≤ distance p i k + distance p k j
  triangle i k j = elim (dec_le no_path (distance p i k + distance p k j)) [
    | yes h ↦ le_trans (distance_le_no_path i j) h
    | no h ↦
        let a = distance_walk i k (omega arith) in
        let b = distance_walk k j (omega arith) in
        elim (dec_le p.n i) [
          | yes l ↦ let e = ap (λ z. distance p z j) (no_walk i k a.0 l a.1) in omega arith
          | no l ↦
              let c = distance_le i j (a.0 ++ b.0) (omega arith) (walk_append p.arcs i k j a.0 b.0 a.1 b.1) in
              let e = cost_append p.arcs a.0 b.0 in
              let f = a.3 in
              let g = b.3 in
              omega arith
        ]
  ]

  -- where there is a walk, and arcs cost at most c, d is at most c for each of n - 1 arcs
  pub distance_bound : (c : ℕ) → ((a : Arc) → Memᴰ a p.arcs → a.cost ≤ c) → (i j : ℕ) (w : List ℕ) → i < p.n
      → IsWalk p.arcs i w j → distance p i j ≤ (p.n - 1) * c
  unfolding distance
  distance_bound c b i j w l h =
      let s = cut i j w l h in
      le_trans (within_le p.arcs (p.n - 1) i j s.0 s.1 s.2) (le_trans (bound i j s.0 s.1) (mul-le-mul_right c s.2))
    where
      bound : (i j : ℕ) (w : List ℕ) → IsWalk p.arcs i w j → walk_cost p.arcs w ≤ length w * c
      bound i j [] h = zero-le
      bound i j (k ∷ w) h =
          let x = b (arc_at p.arcs k) (get_d_mem p.arcs _ k h.0) in
          let y = bound (arc_at p.arcs k).head j w h.3 in
          let e = suc-mul (length w) c in
          omega arith

  -- ---- what a program that fills the table by relaxing arcs cites

  -- no arc can be relaxed at d
  pub distance_arc : (k j : ℕ) → k < length p.arcs → T (is_open (arc_at p.arcs k))
      → distance p (arc_at p.arcs k).tail j ≤ (arc_at p.arcs k).cost + distance p (arc_at p.arcs k).head j
  distance_arc k j l o =
      let e = (ok (arc_at p.arcs k) (get_d_mem p.arcs _ k l)).0 in
      let a = distance_le (arc_at p.arcs k).tail (arc_at p.arcs k).head (k ∷ []) e (l, o, refl, refl) in
      let t = triangle (arc_at p.arcs k).tail (arc_at p.arcs k).head j in
      omega arith

-- a table e that is at most dist_within k, relaxed once along every arc, is at most dist_within (k + 1)
pub relaxed : (arcs : List Arc) (k : ℕ) (e e' : ℕ → ℕ → ℕ) → ((i j : ℕ) → e i j ≤ distance_within arcs k i j) → ((i j : ℕ) → e' i j ≤ e i j)
    → ((a j : ℕ) → a < length arcs → T (is_open (arc_at arcs a))
    → e' (arc_at arcs a).tail j ≤ (arc_at arcs a).cost + e (arc_at arcs a).head j)
    → (i j : ℕ) → e' i j ≤ distance_within arcs (suc k) i j
relaxed arcs k e e' h m r i j = elim (dec_le no_path (distance_within arcs (suc k) i j)) [
  | yes g ↦ le_trans (m i j) (le_trans (h i j) (le_trans (within_le_no_path arcs k i j) g))
  | no g ↦ let w = within_walk arcs (suc k) i j (omega arith) in go w.0 w.1 w.2 w.3
]
  where
    go : (w : List ℕ) → IsWalk arcs i w j → length w ≤ suc k → walk_cost arcs w ≡ distance_within arcs (suc k) i j
        → e' i j ≤ distance_within arcs (suc k) i j
    go [] q l c = let z = self arcs k i j q in let x = m i j in let y = h i j in omega arith
    go (a ∷ w) q l c =
        let x = r a j q.0 q.1 in
        let y = h (arc_at arcs a).head j in
        let z = within_le arcs k (arc_at arcs a).head j w q.3 (omega arith) in
        let s = ap (λ v. e' v j) q.2 in
        omega arith

-- ---- no path

-- what makes distances finite: ends in range, few vertices, bounded costs
pub record Bounded (p : Plan) : Type 0 where
  pub ends : InPlan p
  pub vertices : p.n ≤ 64
  pub costs : (a : Arc) → Memᴰ a p.arcs → a.cost ≤ 65535

pub bounded : {p : Plan} → WellFormed p → Bounded p
bounded h = record {
  ends = λ a m. ((h.each a m).tail_in, (h.each a m).head_in);
  vertices = h.vertices;
  costs = λ a m. (h.each a m).cost_in_holds;
}

pub path_walk : (p : Plan) → InPlan p → (i j : ℕ) → T (has_path p i j) → (w : List ℕ) × IsWalk p.arcs i w j
unfolding has_path
path_walk p ok i j t = let r = distance_walk p ok i j (ltb→lt (distance p i j) no_path t) in (r.0, r.1)

module _ (p : Plan) (ok : Bounded p) where
  finite : (i j : ℕ) (w : List ℕ) → i < p.n → IsWalk p.arcs i w j → distance p i j < no_path
  unfolding no_path
  finite i j w l h =
      let b = distance_bound p ok.ends 65535 ok.costs i j w l h in
      let n = ok.vertices in
      omega arith

  pub walk_path : (i j : ℕ) (w : List ℕ) → i < p.n → IsWalk p.arcs i w j → T (has_path p i j)
  unfolding has_path
  walk_path i j w l h = lt→ltb (distance p i j) no_path (finite i j w l h)

  -- d(i, j) is 4,294,967,295 exactly when there is no path
  pub no_path_none : (i j : ℕ) → i < p.n → distance p i j ≡ no_path → (w : List ℕ) → IsWalk p.arcs i w j → ⊥
  no_path_none i j l e w h = let f = finite i j w l h in omega arith

  pub none_no_path : (i j : ℕ) → ((w : List ℕ) → IsWalk p.arcs i w j → ⊥) → distance p i j ≡ no_path
  none_no_path i j h = elim (dec_le no_path (distance p i j)) [
    | yes g ↦ let b = distance_le_no_path p ok.ends i j in omega arith
    | no g ↦ let r = distance_walk p ok.ends i j (omega arith) in absurd (h r.0 r.1)
  ]
