-- The path is one at most: of two of them each is no dearer, has no more arcs and does not come after the other. A walk that is cut to n −
-- 1 arcs is no dearer, so the path has no more; and it visits no vertex twice, since what lies between two visits could be left out at no
-- more cost. Nothing here uses that costs are positive.
use Rattle.std.specs.Prelude.{◌≡◌, refl, not, ◌&&◌, ◌||◌, ℕ, ◌-◌, ◌≤◌, ◌<◌, length, T, eqb, ltb}
use Rattle.std.proofs.Common.{ap₂, inl, inr, T_not, nltb→le, eqb→eq, ltb→lt}
use Rattle.std.proofs.Math.Path.{subst, subst⁻¹}
use mathlib.Core.List.{List, [], ◌∷◌, map}
use Rattle.std.proofs.Math.Decide.{ℕ_discrete, dec_le}
use native.Mathlib.Omega.{arith}
use Rattle.std.proofs.Math.Dec.{not_T}
use Rattle.postman.specs.Lists.{occurrences}
use Rattle.postman.specs.Plan.{Arc, Plan, arc_at}
use Rattle.postman.specs.Drive.{IsWalk, walk_cost}
use Rattle.postman.specs.FewestPath.{is_before, IsFewestPath, visited}
use Rattle.postman.specs.Laws.Tests.{and_both, and_parts, or_cases, not_or, eqb_same}
use Rattle.postman_laws.specs.Laws.Occurrences.{delta_yes, delta_no, delta_le}
use Rattle.postman_laws.specs.Laws.Distance.{InPlan, cut}

-- ---- compared from the front

-- neither comes first
pub same_place : (v w : List ℕ) → length v ≡ length w → T (not (is_before v w)) → T (not (is_before w v)) → v ≡ w
unfolding is_before
same_place [] [] e a b = refl
same_place [] (y ∷ w) e a b = absurd (omega arith)
same_place (x ∷ v) [] e a b = absurd (omega arith)
same_place (x ∷ v) (y ∷ w) e a b =
    let f = not_or (ltb x y) (eqb x y && is_before v w) a in
    let g = not_or (ltb y x) (eqb y x && is_before w v) b in
    let l = nltb→le x y f.0 in
    let m = nltb→le y x g.0 in
    let q : x ≡ y = omega arith in
    let r : y ≡ x = omega arith in
    ap₂ ◌∷◌ q
    (same_place v w (omega arith)
    (not_T (is_before v w) (λ t. T_not (eqb x y && is_before v w) f.1 (and_both (eqb x y) (is_before v w) (eqb_same q) t)))
    (not_T (is_before w v) (λ t. T_not (eqb y x && is_before w v) g.1 (and_both (eqb y x) (is_before w v) (eqb_same r) t))))

-- a list whose first number is no lower does not come first, unless the rest does
pub not_before : (x y : ℕ) (v w : List ℕ) → y ≤ x → (x ≡ y → T (not (is_before v w))) → T (not (is_before (x ∷ v) (y ∷ w)))
unfolding is_before
not_before x y v w l h = not_T (ltb x y || (eqb x y && is_before v w)) (λ t. elim (or_cases (ltb x y) (eqb x y && is_before v w) t) [
  | inl a ↦ (let g = ltb→lt x y a in omega arith)
  | inr a ↦ (let b = and_parts (eqb x y) (is_before v w) a in T_not (is_before v w) (h (eqb→eq x y b.0)) b.1)
])

pub none_before : (v : List ℕ) → T (not (is_before v []))
unfolding is_before
none_before v = tt

-- ---- the path

module _ (p : Plan) (i j : ℕ) where
  -- there is no other
  pub fewest_unique : (v w : List ℕ) → IsFewestPath p i j v → IsFewestPath p i j w → v ≡ w
  fewest_unique v w g h =
      let a = g.cheapest w h.walk in
      let b = h.cheapest v g.walk in
      let c : walk_cost p.arcs v ≡ walk_cost p.arcs w = omega arith in
      let d : walk_cost p.arcs w ≡ walk_cost p.arcs v = omega arith in
      let m = g.fewest w h.walk d in
      let n = h.fewest v g.walk c in
      let e : length v ≡ length w = omega arith in
      let f : length w ≡ length v = omega arith in
      same_place v w e (h.lowest v g.walk c e) (g.lowest w h.walk d f)

  -- n - 1 arcs are enough
  pub fewest_short : InPlan p → i < p.n → (w : List ℕ) → IsFewestPath p i j w → length w ≤ p.n - 1
  fewest_short ok l w h =
      let s = cut p ok i j w l h.walk in
      let a = h.cheapest s.0 s.1 in
      let b = s.3 in
      let c : walk_cost p.arcs s.0 ≡ walk_cost p.arcs w = omega arith in
      let d = h.fewest s.0 s.1 c in
      let e = s.2 in
      omega arith

-- ---- no vertex twice

module _ (arcs : List Arc) where
  -- a walk from i to j that is shorter than n arcs and costs at most c
  abbrev Shorter : ℕ → ℕ → ℕ → ℕ → Type 0
  Shorter n i j c = (v : List ℕ) × IsWalk arcs i v j × (length v < n) × (walk_cost arcs v ≤ c)

  -- from a vertex that is entered on
  entered_again : (x v j : ℕ) (w : List ℕ) → IsWalk arcs v w j → 1 ≤ occurrences x (map (λ k. (arc_at arcs k).head) w)
      → Shorter (length w) x j (walk_cost arcs w)
  unfolding occurrences
  entered_again x v j [] h o = absurd (omega arith)
  entered_again x v j (k ∷ w) h o = elim (ℕ_discrete x (arc_at arcs k).head) [
    | yes e ↦ (w, subst⁻¹ (λ z. IsWalk arcs z w j) e h.3, omega arith, omega arith)
    | no n ↦
        let d = delta_no _ _ n in
        let r = entered_again x (arc_at arcs k).head j w h.3 (omega arith) in
        let a = r.2 in
        let b = r.3 in
        (r.0, r.1, omega arith, omega arith)
  ]

  visited_twice : (x i j : ℕ) (w : List ℕ) → IsWalk arcs i w j → 2 ≤ occurrences x (visited arcs i w)
      → Shorter (length w) i j (walk_cost arcs w)
  unfolding occurrences
  visited_twice x i j [] h o = let d = delta_le x i in absurd (omega arith)
  visited_twice x i j (k ∷ w) h o = elim (ℕ_discrete x i) [
    | yes e ↦ (let d = delta_yes e in
        subst (λ z. Shorter (length (k ∷ w)) z j (walk_cost arcs (k ∷ w))) e (entered_again x i j (k ∷ w) h (omega arith)))
    | no n ↦
        let d = delta_no _ _ n in
        let r = visited_twice x (arc_at arcs k).head j w h.3 (omega arith) in
        let a = r.2 in
        let b = r.3 in
        (k ∷ r.0, (h.0, h.1, h.2, r.1), omega arith, omega arith)
  ]

-- "Paths written into a drive visit no vertex twice."
pub fewest_once : (p : Plan) (i j : ℕ) (w : List ℕ) → IsFewestPath p i j w → (v : ℕ) → occurrences v (visited p.arcs i w) ≤ 1
fewest_once p i j w h v = elim (dec_le (occurrences v (visited p.arcs i w)) 1) [
  | yes l ↦ l
  | no l ↦
      let r = visited_twice p.arcs v i j w h.walk (omega arith) in
      let a = h.cheapest r.0 r.1 in
      let b = r.3 in
      let c = h.fewest r.0 r.1 (omega arith) in
      let d = r.2 in
      absurd (omega arith)
]
