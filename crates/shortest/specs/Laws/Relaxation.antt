-- After k rounds over all arcs a row is at most the cost of every walk of k arcs from its source, by the walk's last arc; and it is at
-- least the distance, by the triangle inequality. So n − 1 rounds give the distances, and so does a round that changes nothing.
use Rattle.std.specs.Prelude.{◌≡◌, length, get_or, set, replicate}
use Rattle.std.proofs.Math.Path.{refl, subst⁻¹}
use Rattle.std.proofs.Common.{sym, ap, ◌∙◌, subst, le_refl, le_trans, arith, length-set, get_or-set_same, get_or-set_other, ext_get_or, T_not}
use mathlib.Core.List.{List, [], ◌∷◌, ◌++◌, Memᴰ}
use Prim.Native.Nat.{ℕ, zero, suc, ◌+◌, ◌-◌, ◌≤◌, ◌<◌, min, zero-le}
use Rattle.std.proofs.Math.Decide.{dec_le, ℕ_discrete}
use Rattle.std.proofs.lemmas.List.{length-replicate, get_or-replicate}
use Rattle.std.proofs.Math.Dec.{T}
use Rattle.postman.specs.Plan.{Arc, Plan, is_open, arc_at}
use Rattle.postman.specs.Drive.{IsWalk, walk_cost}
use Rattle.postman.specs.Distance.{no_path, distance}
use Rattle.postman.specs.Laws.Tests.{cond_ind}
use Rattle.postman.specs.Laws.Membership.{get_d_mem, mem_get_d}
use Rattle.postman_laws.specs.Laws.Distance.{InPlan, distance_self, distance_le, distance_walk, distance_le_no_path, triangle}
use Rattle.shortest.specs.Relaxation.{weight, shorter, relax_arc, relax_arcs, start_row}
use Rattle.shortest.specs.StepContracts.{IsRow}
use Rattle.shortest.specs.Laws.LastArc.{last_arc}
use Rattle.shortest.specs.Laws.Weight.{IsWeighted}

-- ---- one arc

-- the entry at the arc's head, and every other entry
pub relaxed_head : (a : Arc) (row : List ℕ) → a.head < length row
    → get_or (relax_arc a row) a.head 0 ≡ shorter (get_or row a.tail 0) (weight a) (get_or row a.head 0)
unfolding relax_arc
relaxed_head a row l = get_or-set_same row a.head _ 0 l

pub relaxed_other : (a : Arc) (row : List ℕ) (j : ℕ) → (j ≡ a.head → ⊥) → get_or (relax_arc a row) j 0 ≡ get_or row j 0
unfolding relax_arc
relaxed_other a row j n = get_or-set_other row a.head j _ 0 n

pub relax_arc_length : (a : Arc) (row : List ℕ) → length (relax_arc a row) ≡ length row
unfolding relax_arc
relax_arc_length a row = length-set row a.head _

-- what holds of the old entry, and of the new one at the arc's head, holds of every entry
relaxed_ind : (P : ℕ → ℕ → Type 0) (a : Arc) (row : List ℕ) → a.head < length row → (j : ℕ) → P j (get_or row j 0)
    → (j ≡ a.head → P a.head (shorter (get_or row a.tail 0) (weight a) (get_or row a.head 0))) → P j (get_or (relax_arc a row) j 0)
relaxed_ind P a row l j h g = elim (ℕ_discrete j a.head) [
  | yes e ↦ subst⁻¹ (λ z. P z (get_or (relax_arc a row) z 0)) e (subst⁻¹ (P a.head) (relaxed_head a row l) (g e))
  | no n ↦ subst⁻¹ (P j) (relaxed_other a row j n) h
]

relax_arc_le : (a : Arc) (row : List ℕ) → a.head < length row → (j : ℕ) → get_or (relax_arc a row) j 0 ≤ get_or row j 0
unfolding shorter
relax_arc_le a row l j = relaxed_ind (λ i x. x ≤ get_or row i 0) a row l j (le_refl _) (λ e. omega arith)

-- ---- a round

relax_arcs_length : (arcs : List Arc) (row : List ℕ) → length (relax_arcs arcs row) ≡ length row
unfolding relax_arcs
relax_arcs_length [] row = refl
relax_arcs_length (a ∷ arcs) row = relax_arcs_length arcs (relax_arc a row) ∙ relax_arc_length a row

-- the heads of the arcs are in the row
abbrev HeadsWithin : ℕ → List Arc → Type 0
HeadsWithin n arcs = (a : Arc) → Memᴰ a arcs → a.head < n

relax_arcs_le : (arcs : List Arc) (row : List ℕ) → HeadsWithin (length row) arcs → (j : ℕ)
    → get_or (relax_arcs arcs row) j 0 ≤ get_or row j 0
unfolding relax_arcs
relax_arcs_le [] row h j = le_refl _
relax_arcs_le (a ∷ arcs) row h j =
    let e = relax_arc_length a row in
    le_trans (relax_arcs_le arcs (relax_arc a row) (λ b m. let k = h b (Memᴰ.tail m) in omega arith) j)
    (relax_arc_le a row (h a (Memᴰ.head refl)) j)

-- once an open arc was relaxed, its head costs at most what its tail costs, and the arc
weight_open : (a : Arc) → T (is_open a) → weight a ≡ a.cost
unfolding weight
weight_open a o = cond_ind (is_open a) a.cost no_path (λ x. x ≡ a.cost) (λ t. refl) (λ t. absurd (T_not (is_open a) t o))

relax_arcs_arc : (arcs : List Arc) (row : List ℕ) → HeadsWithin (length row) arcs → {a : Arc} → Memᴰ a arcs → T (is_open a)
    → get_or (relax_arcs arcs row) a.head 0 ≤ a.cost + get_or row a.tail 0
unfolding relax_arcs shorter
relax_arcs_arc [] row h {a = a} x3 o = elim x3 [ ]
relax_arcs_arc (b ∷ arcs) row h {a} (Memᴰ.head e) o =
    let l = h b (Memᴰ.head refl) in
    let n = relax_arc_length b row in
    let r = relax_arcs_le arcs (relax_arc b row) (λ c m. let k = h c (Memᴰ.tail m) in omega arith) b.head in
    let x = relaxed_head b row l in
    let w = weight_open b (subst (λ (c : Arc). T (is_open c)) e o) in
    subst⁻¹ (λ (c : Arc). get_or (relax_arcs arcs (relax_arc b row)) c.head 0 ≤ c.cost + get_or row c.tail 0) e (omega arith)
relax_arcs_arc (b ∷ arcs) row h {a} (Memᴰ.tail m) o =
    let e = relax_arc_length b row in
    let r = relax_arcs_arc arcs (relax_arc b row) (λ c n. let k = h c (Memᴰ.tail n) in omega arith) m o in
    let l = relax_arc_le b row (h b (Memᴰ.head refl)) a.tail in
    omega arith

-- the arcs in order: one more arc at the end
pub relax_arcs_snoc : (arcs : List Arc) (a : Arc) (row : List ℕ) → relax_arcs (arcs ++ a ∷ []) row ≡ relax_arc a (relax_arcs arcs row)
unfolding relax_arcs
relax_arcs_snoc [] a row = refl
relax_arcs_snoc (b ∷ arcs) a row = relax_arcs_snoc arcs a (relax_arc b row)

-- ---- rounds: between the distance and the cost of every walk of at most k arcs

pub record Rounds (p : Plan) (source k : ℕ) (row : List ℕ) : Type 0 where
  pub size : length row ≡ 64
  pub at_most : (j : ℕ) → get_or row j 0 ≤ no_path
  pub at_least : (j : ℕ) → j < 64 → distance p source j ≤ get_or row j 0
  pub reaches : (j : ℕ) (w : List ℕ) → IsWalk p.arcs source w j → length w ≤ k → get_or row j 0 ≤ walk_cost p.arcs w

pub rounds_none : (p : Plan) → IsWeighted p → (source : ℕ) → source < 64 → Rounds p source 0 (start_row source)
unfolding start_row
rounds_none p wf source l = record {
  size = size;
  at_most = λ j. elim (ℕ_discrete j source) [
    | yes e ↦ let z = same j e in omega arith
    | no n ↦ elim (dec_le 64 j) [
      | yes g ↦ let z = past (set (replicate 64 no_path) source 0) j (omega (arith, size)) in omega arith
      | no g ↦ let z = other j (omega arith) n in omega arith
    ]
  ];
  at_least = λ j g. elim (ℕ_discrete j source) [
    | yes e ↦ let z = ap (distance p source) e in let s = distance_self p ok source in omega arith
    | no n ↦ let z = other j g n in let s = distance_le_no_path p ok source j in omega arith
  ];
  reaches = λ j w. none j w;
}
  where
    ok : InPlan p
    ok = wf.ends

    size : length (set (replicate 64 no_path) source 0) ≡ 64
    size = length-set (replicate 64 no_path) source 0 ∙ length-replicate 64 no_path

    same : (j : ℕ) → j ≡ source → get_or (set (replicate 64 no_path) source 0) j 0 ≡ 0
    same j e =
        let n = length-replicate 64 no_path in
        subst⁻¹ (λ z. get_or (set (replicate 64 no_path) source 0) z 0 ≡ 0) e
        (get_or-set_same (replicate 64 no_path) source 0 0 (omega arith))

    other : (j : ℕ) → j < 64 → (j ≡ source → ⊥) → get_or (set (replicate 64 no_path) source 0) j 0 ≡ no_path
    other j g n = get_or-set_other (replicate 64 no_path) source j 0 0 n ∙ get_or-replicate 64 j no_path 0 g

    past : (row : List ℕ) (j : ℕ) → length row ≤ j → get_or row j 0 ≡ 0
    past [] j h = refl
    past (x ∷ row) zero h = absurd (omega arith)
    past (x ∷ row) (suc j) h = past row j (omega arith)

    none : (j : ℕ) (w : List ℕ) → IsWalk p.arcs source w j → length w ≤ 0
        → get_or (set (replicate 64 no_path) source 0) j 0 ≤ walk_cost p.arcs w
    none j [] h g = let z = same j (sym h) in omega arith
    none j (k ∷ w) h g = absurd (omega arith)

module _ (p : Plan) (wf : IsWeighted p) (source : ℕ) where
  ok : InPlan p
  ok = wf.ends

  abbrev AtLeast : List ℕ → Type 0
  AtLeast row = (j : ℕ) → j < 64 → distance p source j ≤ get_or row j 0

  -- no arc leads below the distance
  at_least_arc : (a : Arc) → Memᴰ a p.arcs → (row : List ℕ) → length row ≡ 64 → AtLeast row → AtLeast (relax_arc a row)
  unfolding weight shorter
  at_least_arc a m row e h j g =
      let o = ok a m in
      let few = wf.vertices in
      relaxed_ind (λ i x. distance p source i ≤ x) a row (omega arith) j (h j g) (λ q.
      let t = h a.tail (omega arith) in
      let u = h a.head (omega arith) in
      let b = distance_le_no_path p ok source a.head in
      cond_ind (is_open a) a.cost no_path
      (λ x. distance p source a.head ≤ min (get_or row a.head 0) (min (get_or row a.tail 0 + x) no_path))
      (λ c.
      let x = mem_get_d _ m in
      let w = triangle p ok source a.tail a.head in
      let y = subst⁻¹ (λ (b : Arc). T (is_open b) × (b.tail ≡ a.tail) × (b.head ≡ a.head) × (b.cost ≡ a.cost)) x.2
      (c, refl, refl, refl) in
      let z = distance_le p ok a.tail a.head (x.0 ∷ []) o.0 (x.1, y.0, y.1, y.2) in
      let k = y.3 in
      omega arith)
      (λ c. omega arith))

  at_least_arcs : (arcs : List Arc) → ((a : Arc) → Memᴰ a arcs → Memᴰ a p.arcs) → (row : List ℕ) → length row ≡ 64
      → AtLeast row → AtLeast (relax_arcs arcs row)
  unfolding relax_arcs
  at_least_arcs [] sub row e h = h
  at_least_arcs (a ∷ arcs) sub row e h =
      at_least_arcs arcs (λ b m. sub b (Memᴰ.tail m)) (relax_arc a row) (relax_arc_length a row ∙ e)
      (at_least_arc a (sub a (Memᴰ.head refl)) row e h)

  heads_within : (row : List ℕ) → length row ≡ 64 → HeadsWithin (length row) p.arcs
  heads_within row e a m = let o = (ok a m).1 in let few = wf.vertices in omega arith

  rounds_more : (k : ℕ) (row : List ℕ) → Rounds p source k row → Rounds p source (suc k) (relax_arcs p.arcs row)
  rounds_more k row h = record {
    size = relax_arcs_length p.arcs row ∙ h.size;
    at_most = λ j. le_trans (le j) (h.at_most j);
    at_least = at_least_arcs p.arcs (λ a m. m) row h.size h.at_least;
    reaches = more;
  }
    where
      le : (j : ℕ) → get_or (relax_arcs p.arcs row) j 0 ≤ get_or row j 0
      le j = relax_arcs_le p.arcs row (heads_within row h.size) j

      more : (j : ℕ) (w : List ℕ) → IsWalk p.arcs source w j → length w ≤ suc k
          → get_or (relax_arcs p.arcs row) j 0 ≤ walk_cost p.arcs w
      more j [] q l = le_trans (le j) (h.reaches j [] q zero-le)
      more j (a ∷ w) q l =
          let r = last_arc p.arcs source a j w q in
          let s = r.size in
          let c = r.costs in
          let x = relax_arcs_arc p.arcs row (heads_within row h.size) {a = arc_at p.arcs r.last}
          (get_d_mem p.arcs _ r.last r.number) r.opens in
          let y = h.reaches (arc_at p.arcs r.last).tail r.before r.walk (omega arith) in
          let z = ap (λ i. get_or (relax_arcs p.arcs row) i 0) r.head in
          omega arith

  -- a round that changes nothing: every further one would not either
  rounds_settled : (row : List ℕ) → relax_arcs p.arcs row ≡ row → Rounds p source 0 row → (k : ℕ) → Rounds p source k row
  rounds_settled row e h zero = h
  rounds_settled row e h (suc k) = subst (Rounds p source (suc k)) e (rounds_more k row (rounds_settled row e h k))

  rounds_fewer : {k : ℕ} {row : List ℕ} → Rounds p source k row → Rounds p source 0 row
  rounds_fewer h =
      record { size = h.size; at_most = h.at_most; at_least = h.at_least; reaches = λ j w q l. h.reaches j w q (le_trans l zero-le) }

  pub rounds_row : (row : List ℕ) → Rounds p source (p.n - 1) row → IsRow p source row
  rounds_row row h j g =
      let b = h.at_least j g in
      let t = h.at_most j in
      elim (dec_le no_path (distance p source j)) [
        | yes q ↦ omega arith
        | no q ↦
            let w = distance_walk p ok source j (omega arith) in
            let r = h.reaches j w.0 w.1 w.2 in
            let c = w.3 in
            omega arith
      ]

  -- ---- what the loop over the rounds cites

  pub rounds_next : (k : ℕ) (row next : List ℕ) → 1 ≤ k → Rounds p source (k - 1) row → next ≡ relax_arcs p.arcs row
      → Rounds p source (k + 1 - 1) next
  rounds_next k row next l h e =
      let a : suc (k - 1) ≡ k + 1 - 1 = omega arith in
      rw (e, ← a) (rounds_more (k - 1) row h)

  pub settled_row : (k : ℕ) (row next : List ℕ) → Rounds p source k row → next ≡ relax_arcs p.arcs row
      → ((j : ℕ) → j < 64 → get_or next j 0 ≡ get_or row j 0) → IsRow p source row
  settled_row k row next h e same =
      let n = relax_arcs_length p.arcs row in
      let s = h.size in
      let x : length next ≡ length (relax_arcs p.arcs row) = ap length e in
      let f : next ≡ row = ext_get_or 0 next row (omega arith) (λ j l. same j (omega arith)) in
      rounds_row row (rounds_settled row (sym e ∙ f) (rounds_fewer h) (p.n - 1))
