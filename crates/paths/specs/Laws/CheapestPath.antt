-- In a plan whose arcs cost something, as a weighted plan's do: the path is a walk that costs d, since at each vertex some cheapest path
-- begins with an open arc, and d falls along it. So no vertex is entered twice, and fewer vertices than there are lie nearer to the end: n
-- arcs are enough. No walk that costs d comes before it: its first arc begins a cheapest path too, so that it is no lower than the lowest
-- that does, and so on from the head of that.
use Rattle.std.specs.Prelude.{◌≡◌, ◌≢◌, true, not, ◌&&◌, length, eqb}
use Rattle.std.proofs.Math.Path.{ap, subst}
use Rattle.std.proofs.Math.Logic.{inl, inr}
use mathlib.Core.List.Memᴰ
use mathlib.Core.List.{List, [], ◌∷◌, Memᴰ}
use Prim.Native.Nat.{ℕ, zero, suc, ◌+◌, ◌-◌, ◌≤◌, ◌<◌, zero-le}
use Rattle.std.proofs.Math.Decide.{dec_le, ℕ_discrete}
use native.Mathlib.Omega.{arith}
use Rattle.std.proofs.Math.Dec.{T, ltb, lt→ltb, ltb→lt, not_T}
use Rattle.std.proofs.Common.{eqb→eq}
use Rattle.postman.specs.Lists.{select, below, occurrences}
use Rattle.postman.specs.Plan.{Plan, is_open, arc_at}
use Rattle.postman.specs.Drive.{IsWalk, walk_cost}
use Rattle.postman.specs.Distance.{no_path, distance}
use Rattle.postman.specs.FewestPath.{is_before}
use Rattle.postman.specs.Laws.Tests.{cond_ind, and_both, and_parts, eqb_same, eqb_other}
use Rattle.postman.specs.Laws.Membership.{get_d_mem, mem_below, length_below}
use Rattle.postman_laws.specs.Laws.Occurrences.{delta_yes, delta_no, mem_of_occurrences}
use Rattle.postman_laws.specs.Laws.FewestPath.{not_before, none_before}
use Rattle.postman_laws.specs.Laws.Distance.{InPlan, distance_self, distance_le, distance_walk, distance_arc}
use Rattle.paths.specs.ShortestPath.{begins, next_arc, path_within, cheapest_path}
use Rattle.shortest.specs.Weight.{entered}
use Rattle.postman_laws.specs.Laws.FirstNumber.{first_lt, first_le, first_test}
use Rattle.postman_laws.specs.Laws.Selection.{select_length}
use Rattle.paths.specs.Laws.Rank.{select_lt}
use Rattle.shortest.specs.Laws.Weight.{IsWeighted}

-- what a number that begins a cheapest path says
pub record Begins (p : Plan) (v j k : ℕ) : Type 0 where
  pub number : k < length p.arcs
  pub opens : T (is_open (arc_at p.arcs k))
  pub tail : (arc_at p.arcs k).tail ≡ v
  pub costs : (arc_at p.arcs k).cost + distance p (arc_at p.arcs k).head j ≡ distance p v j

begins_parts : (p : Plan) (v j k : ℕ) → k < length p.arcs → T (begins p v j k) → Begins p v j k
unfolding begins
begins_parts p v j k l t =
    let o = is_open (arc_at p.arcs k) in
    let e = eqb (arc_at p.arcs k).tail v in
    let c = eqb ((arc_at p.arcs k).cost + distance p (arc_at p.arcs k).head j) (distance p v j) in
    let a = and_parts (o && e) c t in
    let b = and_parts o e a.0 in
    record { number = l; opens = b.0; tail = eqb→eq _ v b.1; costs = eqb→eq _ (distance p v j) a.1 }

begins_whole : (p : Plan) (v j k : ℕ) → Begins p v j k → T (begins p v j k)
unfolding begins
begins_whole p v j k h =
    let o = is_open (arc_at p.arcs k) in
    let e = eqb (arc_at p.arcs k).tail v in
    let c = eqb ((arc_at p.arcs k).cost + distance p (arc_at p.arcs k).head j) (distance p v j) in
    and_both (o && e) c (and_both o e h.opens (eqb_same h.tail)) (eqb_same h.costs)

module _ (p : Plan) (ok : IsWeighted p) where
  ends : InPlan p
  ends = ok.ends

  -- ---- the next arc

  -- the first arc of a cheapest walk begins one, and the rest is one from its head
  first_begins : (v j k : ℕ) (w : List ℕ) → IsWalk p.arcs v (k ∷ w) j → walk_cost p.arcs (k ∷ w) ≡ distance p v j
      → Begins p v j k × (walk_cost p.arcs w ≡ distance p (arc_at p.arcs k).head j)
  first_begins v j k w q c =
      let o = (ends (arc_at p.arcs k) (get_d_mem p.arcs _ k q.0)).1 in
      let a = distance_le p ends (arc_at p.arcs k).head j w o q.3 in
      let b = distance_arc p ends k j q.0 q.1 in
      let e = ap (λ z. distance p z j) q.2 in
      (record { number = q.0; opens = q.1; tail = q.2; costs = omega arith }, omega arith)

  -- at a vertex other than the end, some arc begins a cheapest path
  some_begins : (v j : ℕ) → v ≢ j → distance p v j < no_path → (k : ℕ) × Begins p v j k
  some_begins v j n h = let r = distance_walk p ends v j h in go r.0 r.1 r.3
    where
      go : (w : List ℕ) → IsWalk p.arcs v w j → walk_cost p.arcs w ≡ distance p v j → (k : ℕ) × Begins p v j k
      go [] q c = absurd (n q)
      go (k ∷ w) q c = (k, (first_begins v j k w q c).0)

  pub next_begins : (v j : ℕ) → v ≢ j → distance p v j < no_path → Begins p v j (next_arc p v j)
  unfolding next_arc
  next_begins v j n h =
      let r = some_begins v j n h in
      let l = first_lt (begins p v j) (length p.arcs) r.1.number (begins_whole p v j r.0 r.1) in
      begins_parts p v j (next_arc p v j) l (first_test (begins p v j) (length p.arcs) l)

  -- none that begins one is lower
  next_lowest : (v j k : ℕ) → Begins p v j k → next_arc p v j ≤ k
  unfolding next_arc
  next_lowest v j k h = first_le (begins p v j) (length p.arcs) h.number (begins_whole p v j k h)

  -- its head is nearer to the end
  nearer : (v j k : ℕ) → Begins p v j k → distance p (arc_at p.arcs k).head j < distance p v j
  nearer v j k h = let c = ok.weighs (arc_at p.arcs k) (get_d_mem p.arcs _ k h.number) in let e = h.costs in omega arith

  -- how many vertices are nearer to j than v
  rank : ℕ → ℕ → ℕ
  rank j v = length (select (λ u. ltb (distance p u j) (distance p v j)) (below p.n))

  rank_falls : (j u v : ℕ) → u < p.n → distance p u j < distance p v j → rank j u < rank j v
  unfolding rank
  rank_falls j u v l h =
      select_lt (λ x. ltb (distance p x j) (distance p u j)) (λ x. ltb (distance p x j) (distance p v j))
      (λ x t. let g = ltb→lt (distance p x j) (distance p u j) t in lt→ltb (distance p x j) (distance p v j) (omega arith))
      (mem_below l) (lt→ltb (distance p u j) (distance p v j) h)
      (not_T (ltb (distance p u j) (distance p u j)) (λ t. let g = ltb→lt (distance p u j) (distance p u j) t in omega arith))

  rank_lt : (j v : ℕ) → v < p.n → rank j v < p.n
  unfolding rank
  rank_lt j v l =
      let a = select_lt (λ x. ltb (distance p x j) (distance p v j)) (λ x. true) (λ x t. tt) (mem_below l) tt
      (not_T (ltb (distance p v j) (distance p v j)) (λ t. let g = ltb→lt (distance p v j) (distance p v j) t in omega arith)) in
      let b = select_length (λ x. true) (below p.n) in
      let e = length_below p.n in
      omega arith

  -- ---- the path

  -- every vertex that the walk enters is nearer to j than c
  abbrev Nearer : ℕ → ℕ → List ℕ → Type 0
  Nearer j c w = (x : ℕ) → Memᴰ x (entered p.arcs w) → distance p x j < c

  record IsPath (v j k : ℕ) (w : List ℕ) : Type 0 where
    walk : IsWalk p.arcs v w j
    costs : walk_cost p.arcs w ≡ distance p v j
    short : length w ≤ k
    near : Nearer j (distance p v j) w
    once : (x : ℕ) → occurrences x (entered p.arcs w) ≤ 1

  empty_path : (v j k : ℕ) → v ≡ j → IsPath v j k []
  unfolding occurrences
  empty_path v j k e = record {
    walk = e;
    costs = let z = distance_self p ends v in let a = ap (distance p v) e in omega arith;
    short = zero-le;
    near = λ x m. elim m [ ];
    once = λ x. zero-le;
  }

  cons_path : (v j k r s : ℕ) (w : List ℕ) → Begins p v j k → r < s → IsPath (arc_at p.arcs k).head j r w → IsPath v j s (k ∷ w)
  unfolding occurrences
  cons_path v j k r s w b l h =
      let u = (arc_at p.arcs k).head in
      let g = nearer v j k b in
      let e = b.costs in
      let c = h.costs in
      let n = h.short in
      record {
        walk = (b.number, b.opens, b.tail, h.walk);
        costs = omega arith;
        short = omega arith;
        near = λ x m. elim (Memᴰ.cases_cons m) [
          | inl q ↦ let d = ap (λ z. distance p z j) q in omega arith
          | inr m' ↦ let d = h.near x m' in omega arith
        ];
        once = λ x. elim (ℕ_discrete x u) [
          | yes q ↦
              let a = delta_yes q in
              let z = none x (entered p.arcs w) (λ m. let d = h.near x m in let i = ap (λ z. distance p z j) q in omega arith) in
              omega arith
          | no q ↦ let a = delta_no x u q in let z = h.once x in omega arith
        ];
      }
    where
      none : (x : ℕ) (xs : List ℕ) → (Memᴰ x xs → ⊥) → occurrences x xs ≡ 0
      none x xs h = elim (dec_le 1 (occurrences x xs)) [ yes g ↦ absurd (h (mem_of_occurrences x xs g)) | no g ↦ omega arith ]

  path_within_lem : (f v j : ℕ) → v < p.n → distance p v j < no_path → rank j v ≤ f → IsPath v j (rank j v) (path_within p f v j)
  unfolding path_within
  path_within_lem zero v j l h g = elim (ℕ_discrete v j) [
    | yes e ↦ empty_path v j (rank j v) e
    | no n ↦
        let b = next_begins v j n h in
        let o = (ends (arc_at p.arcs (next_arc p v j)) (get_d_mem p.arcs _ (next_arc p v j) b.number)).1 in
        let r = rank_falls j (arc_at p.arcs (next_arc p v j)).head v o (nearer v j (next_arc p v j) b) in
        absurd (omega arith)
  ]
  path_within_lem (suc f) v j l h g =
      let k = next_arc p v j in
      cond_ind (eqb v j) [] (k ∷ path_within p f (arc_at p.arcs k).head j) (IsPath v j (rank j v))
      (λ t. empty_path v j (rank j v) (eqb→eq v j t)) (λ t.
      let b = next_begins v j (eqb_other t) h in
      let o = (ends (arc_at p.arcs k) (get_d_mem p.arcs _ k b.number)).1 in
      let d = nearer v j k b in
      let r = rank_falls j (arc_at p.arcs k).head v o d in
      cons_path v j k (rank j (arc_at p.arcs k).head) (rank j v) (path_within p f (arc_at p.arcs k).head j) b r
      (path_within_lem f (arc_at p.arcs k).head j o (omega arith) (omega arith)))

  -- no cheapest walk comes before it
  lowest_within : (f v j : ℕ) (w : List ℕ) → IsWalk p.arcs v w j → walk_cost p.arcs w ≡ distance p v j
      → T (not (is_before w (path_within p f v j)))
  unfolding path_within
  lowest_within zero v j w q c = none_before w
  lowest_within (suc f) v j [] q c =
      let k = next_arc p v j in
      cond_ind (eqb v j) [] (k ∷ path_within p f (arc_at p.arcs k).head j) (λ x. T (not (is_before [] x))) (λ t. none_before [])
      (λ t. absurd (eqb_other t q))
  lowest_within (suc f) v j (a ∷ w) q c =
      let k = next_arc p v j in
      let b = first_begins v j a w q c in
      cond_ind (eqb v j) [] (k ∷ path_within p f (arc_at p.arcs k).head j) (λ x. T (not (is_before (a ∷ w) x))) (λ t. none_before (a ∷ w))
      (λ t.
      not_before a k w (path_within p f (arc_at p.arcs k).head j) (next_lowest v j a b.0)
      (λ e. subst (λ x. T (not (is_before w (path_within p f (arc_at p.arcs x).head j)))) e
      (lowest_within f (arc_at p.arcs a).head j w q.3 b.1)))

-- The path from i to j: where there is one, a walk of open arcs that costs d(i,j), of at most n − 1 arcs, which enters no vertex twice and
-- not i again; no walk of that cost comes before it.
pub record IsCheapestPath (p : Plan) (i j : ℕ) (w : List ℕ) : Type 0 where
  pub walk : IsWalk p.arcs i w j
  pub costs : walk_cost p.arcs w ≡ distance p i j
  pub short : length w ≤ p.n - 1
  pub once : (x : ℕ) → occurrences x (entered p.arcs w) ≤ 1
  pub leaves : occurrences i (entered p.arcs w) ≡ 0
  pub lowest : (v : List ℕ) → IsWalk p.arcs i v j → walk_cost p.arcs v ≡ distance p i j → T (not (is_before v w))

pub cheapest_path_lem : (p : Plan) → IsWeighted p → (i j : ℕ) → i < p.n → distance p i j < no_path
    → IsCheapestPath p i j (cheapest_path p i j)
unfolding cheapest_path
cheapest_path_lem p ok i j l h =
    let g = rank_lt p ok j i l in
    let r = path_within_lem p ok p.n i j l h (omega arith) in
    let s = r.short in
    record {
      walk = r.walk;
      costs = r.costs;
      short = omega arith;
      once = r.once;
      leaves = elim (dec_le 1 (occurrences i (entered p.arcs (path_within p p.n i j)))) [
        | yes g ↦ let d = r.near i (mem_of_occurrences i _ g) in omega arith
        | no g ↦ omega arith
      ];
      lowest = λ v q c. lowest_within p ok p.n i j v q c;
    }
