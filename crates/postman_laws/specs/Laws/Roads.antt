-- What d depends on: two lists of arcs that agree, arc by arc, in ends and cost and in which may be driven,
-- have the same distances, whatever is required.
use Rattle.std.specs.Prelude.{◌≡◌, Bool, cond, ◌&&◌}
use Rattle.std.proofs.Math.Path.{refl, ap, ap₂, fun_ext}
use Rattle.std.proofs.Common.{sym, ◌∙◌}
use Rattle.std.proofs.Math.Bool.{true, false}
use mathlib.Core.List.{List, [], ◌∷◌}
use Prim.Native.Nat.{ℕ, zero, suc, ◌+◌, ◌-◌, min}
use Rattle.std.proofs.Math.Dec.{eqb}
use Rattle.postman.specs.Lists.{select, least}
use Rattle.postman.specs.Plan.{Arc, Plan, is_open}
use Rattle.postman.specs.Distance.{no_path, arcs_from, distance_within, distance}
use Rattle.postman.specs.Laws.Tests.{of_true}

-- An arc is driven alike in both.
pub record SameRoad (a b : Arc) : Type 0 where
  pub tail_same : a.tail ≡ b.tail
  pub head_same : a.head ≡ b.head
  pub cost_same : a.cost ≡ b.cost
  pub open_same : is_open a ≡ is_open b

abbrev pub SameRoads : List Arc → List Arc → Type 0
SameRoads [] [] = Unit {0}
SameRoads [] (b ∷ ys) = ⊥
SameRoads (a ∷ xs) [] = ⊥
SameRoads (a ∷ xs) (b ∷ ys) = SameRoad a b × SameRoads xs ys

module _ (i : ℕ) (f : ℕ → ℕ) where
  abbrev over : List Arc → ℕ
  over arcs = least no_path (λ a. a.cost + f a.head) arcs

  -- the least over the arcs that leave i
  least_same : (xs ys : List Arc) → SameRoads xs ys → over (arcs_from xs i) ≡ over (arcs_from ys i)
  unfolding least arcs_from select
  least_same [] [] h = refl
  least_same [] (b ∷ ys) h = absurd h
  least_same (a ∷ xs) [] h = absurd h
  least_same (a ∷ xs) (b ∷ ys) h =
      let r = h.0 in
      let e = least_same xs ys h.1 in
      let c : (is_open a && eqb a.tail i) ≡ (is_open b && eqb b.tail i) =
      ap₂ (λ (x : Bool) (y : ℕ). x && eqb y i) r.open_same r.tail_same in
      let v : a.cost + f a.head ≡ b.cost + f b.head = ap₂ (λ (x y : ℕ). x + f y) r.cost_same r.head_same in
      step (is_open a && eqb a.tail i) (is_open b && eqb b.tail i) c (arcs_from xs i) (arcs_from ys i) a b v e
    where
      step : (x y : Bool) → x ≡ y → (s t : List Arc) (a b : Arc) → a.cost + f a.head ≡ b.cost + f b.head → over s ≡ over t
          → over (cond x (a ∷ s) s) ≡ over (cond y (b ∷ t) t)
      step true true c s t a b v e = ap₂ min v e
      step true false c s t a b v e = absurd (of_true (sym c))
      step false true c s t a b v e = absurd (of_true c)
      step false false c s t a b v e = e

module _ (xs ys : List Arc) (h : SameRoads xs ys) where
  within_same : (k i j : ℕ) → distance_within xs k i j ≡ distance_within ys k i j
  unfolding distance_within
  within_same zero i j = refl
  within_same (suc k) i j =
      ap (cond (eqb i j) 0)
      (least_same i (λ v. distance_within xs k v j) xs ys h
      ∙ ap (λ (f : ℕ → ℕ). least no_path (λ a. a.cost + f a.head) (arcs_from ys i)) (fun_ext (λ v. within_same k v j)))

pub distance_same : (p q : Plan) → p.n ≡ q.n → SameRoads p.arcs q.arcs → (i j : ℕ) → distance p i j ≡ distance q i j
unfolding distance
distance_same p q e h i j = within_same p.arcs q.arcs h (p.n - 1) i j ∙ ap (λ n. distance_within q.arcs (n - 1) i j) e
