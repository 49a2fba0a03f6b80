-- The multipliers are feasible and tight, as potentials raised by distances are. They are the greatest: whatever is feasible and tight for
-- the same amounts falls along a residual pair by at most its length, so from a vertex to the root by at most the distance.
use Rattle.std.specs.Prelude.{◌≡◌, true, ℕ, zero, suc, ◌+◌, ◌≤◌, ◌<◌, get_or, replicate, ℤ, ◌-ℤ◌}
use Rattle.std.proofs.Common.{ap, ◌∙◌, arith}
use mathlib.Core.List.{List, Memᴰ}
use Rattle.std.proofs.Math.Decide.{ℕ_discrete, dec_le}
use Rattle.std.proofs.Math.ListN.{length-replicate}
use Rattle.std.proofs.Math.IntN.{pos}
use Rattle.balance.specs.Optimality.{ArePotentials, Tight}
use Rattle.residual_search.specs.Search.{Found, search}
use Rattle.postman.specs.Steps.{amount}
use Rattle.residual_search.specs.Step.{State, potential, residual_length}
use Rattle.balance.specs.Multipliers.{from_root, ways, multipliers}
use Rattle.balance.specs.Invariant.{Metric, limit, Certified}
use Rattle.residual_search.specs.Laws.Search.{Ground, Searching, searched, whole_settled}
use Rattle.balance.specs.Laws.Step.{residual_ahead, residual_ground, raised_feasible, raised_tight}
use Rattle.residual_search.specs.Laws.Fill.{zero_at, fill_other, fill_here}

module _ (d : ℕ → ℕ → ℕ) (vs : List ℕ) (metric : Metric d vs) (s : State) (certified : Certified d vs s) (room : s.count < limit)
    (root : ℕ) (mr : Memᴰ root vs) where
  abbrev f : ℕ → ℕ → ℕ
  f = amount s.amounts

  abbrev u : ℕ → ℕ
  u = potential s.potentials

  abbrev ℓ : ℕ → ℕ → ℕ
  ℓ = residual_length d s.amounts s.potentials

  abbrev found : Found
  found = search ℓ vs root true root

  -- the distance to the root
  abbrev pub x : ℕ → ℕ
  x v = get_or found.distance v 0

  abbrev rank : ℕ → ℕ
  rank v = get_or found.rank v 0

  ground : Ground ℓ vs root
  ground = residual_ground d vs metric s certified room root mr

  state : (k : ℕ) × Searching ℓ vs root k found
  state = searched ℓ vs root ground true root mr

  settled : (v : ℕ) → Memᴰ v vs → 0 < rank v
  settled v m = whole_settled ℓ vs root ground true root mr tt v m

  x_near : (i j : ℕ) → Memᴰ i vs → Memᴰ j vs → x i ≤ x j + ℓ i j
  x_near i j mi mj = state.1.near j i mj mi (settled j mj)

  pub x_root : x root ≡ 0
  x_root = state.1.zero

  -- the multipliers, but for a constant
  abbrev pub w : ℕ → ℕ
  w v = x v + u v

  pub w_feasible : ArePotentials d vs w
  w_feasible i j mi mj = let c = raised_feasible d vs metric s certified room x x_near i j mi mj in omega arith

  pub w_tight : Tight d vs f w
  w_tight i j mi mj p = let c = raised_tight d vs metric s certified room x x_near i j mi mj p in omega arith

  module _ (q : ℕ → ℕ) (feasible : ArePotentials d vs q) (tight : Tight d vs f q) where
    -- along a residual pair q falls by at most its length
    falls : (i j : ℕ) → Memᴰ i vs → Memᴰ j vs → q i + u j ≤ ℓ i j + q j + u i
    falls i j mi mj = elim (dec_le 1 (f j i)) [
      | yes h ↦ let a = tight j i mj mi h in let b = certified.tight j i mj mi h in omega arith
      | no h ↦
          let e = residual_ahead (d i j) (u i) (u j) (f j i) (omega arith) in
          let a = feasible i j mi mj in
          let b = certified.feasible i j mi mj in
          omega arith
    ]

    climbs : (n v : ℕ) → Memᴰ v vs → rank v ≤ n → q v + u root ≤ x v + u v + q root
    climbs zero v m l = let h = settled v m in absurd (omega arith)
    climbs (suc n) v m l = elim (ℕ_discrete v root) [
      | yes e ↦ let a = ap q e in let b = ap u e in omega arith
      | no n' ↦
          let o = state.1.order v m (settled v m) n' in
          let mn = state.1.onward v m in
          let r = climbs n (get_or found.next v 0) mn (omega arith) in
          let e = state.1.edge v m in
          let a = falls v (get_or found.next v 0) m mn in
          omega arith
    ]

    -- from a vertex to the root by at most the distance
    pub below_greatest : (v : ℕ) → Memᴰ v vs → q v + u root ≤ w v + q root
    below_greatest v m = climbs (rank v) v m (omega arith)

  -- ---- the multipliers as they are stored

  abbrev pub M : ℕ → ℤ
  M v = get_or (multipliers d vs s root) v (pos 0)

  pub M-here : (v : ℕ) → Memᴰ v vs → M v ≡ pos (w v) -ℤ pos (u root)
  unfolding multipliers from_root ways
  M-here v m =
      fill_here (λ v. pos (x v + u v) -ℤ pos (u root)) (pos 0) vs (replicate 64 (pos 0)) v m
      (let a = metric.small v m in let b = length-replicate 64 (pos 0) in omega arith)

  pub M-other : (v : ℕ) → (Memᴰ v vs → ⊥) → M v ≡ pos 0
  unfolding multipliers from_root ways
  M-other v n = fill_other (λ v. pos (x v + u v) -ℤ pos (u root)) (pos 0) vs (replicate 64 (pos 0)) v n ∙ zero_at 64 v (pos 0)
