-- Reduced costs, and potentials that are levelled: what the functions that bound ask and answer.
use Rattle.std.specs.Prelude.{◌≡◌, List, ℕ, ◌+◌, ◌≤◌, ◌<◌, length, get_or, ℤ, pos, ◌+ℤ◌, ◌-ℤ◌, ◌≤ℤ◌}
use Rattle.postman.specs.Balancing.{heads, tails}
use Rattle.postman.specs.Steps.{cell}
use Rattle.tree_bounds.specs.Bound.{reduced_by}

-- The reduced cost of the way from t to h is not negative, and small.
pub record CanReduce (table : List (List ℕ)) (pot : List ℕ) (t h : ℕ) : Type 0 where
  pub tail : t < 64
  pub head : h < 64
  pub short : cell table t h ≤ 4128705
  pub feasible : get_or pot t 0 ≤ cell table t h + get_or pot h 0
  pub low : get_or pot h 0 ≤ 3005697240

-- Two multipliers are no further apart than 63 arcs of cost 65,535.
pub record Spread (u low : ℤ) : Type 0 where
  pub above : pos 0 ≤ℤ (u -ℤ low +ℤ pos 4128705)
  pub below : pos 0 ≤ℤ (low -ℤ u +ℤ pos 4128705)

-- What stands in w for the first n of vs is told by a fact of each vertex, and no more than 8,257,410.
pub record ArePut (fact : ℕ → ℕ → Type 0) (vs : List ℕ) (n : ℕ) (w : List ℕ) : Type 0 where
  pub size : length w ≡ 64
  pub each : (k : ℕ) → k < n → fact (get_or vs k 0) (get_or w (get_or vs k 0) 0)
  pub low : (v : ℕ) → get_or w v 0 ≤ 8257410

-- The multipliers of the first n of vs, from that of the first on, and raised so that none is negative.
abbrev pub AreShifted : List ℤ → List ℕ → ℕ → List ℕ → Type 0
AreShifted u vs n w = ArePut (λ v x. pos x ≡ get_or u v (pos 0) -ℤ get_or u (get_or vs 0 0) (pos 0) +ℤ pos 4128705) vs n w

-- The candidates at the places from `from` to `to` have reduced costs, and r is at most each of them.
abbrev pub AreReducible : List (List ℕ) → List ℕ → List ℕ → List ℕ → ℕ → ℕ → Type 0
AreReducible table pot tails heads from to = (x : ℕ) → from ≤ x → x < to → CanReduce table pot (get_or tails x 0) (get_or heads x 0)

pub record IsLeast (table : List (List ℕ)) (pot tails heads : List ℕ) (from to r : ℕ) : Type 0 where
  pub low : (x : ℕ) → from ≤ x → x < to → r ≤ reduced_by table pot (get_or tails x 0) (get_or heads x 0)
  pub most : r ≤ 4000000000

-- The candidates of the components from a on have reduced costs.
pub record CanRest (table : List (List ℕ)) (pot start tails heads : List ℕ) (a k : ℕ) : Type 0 where
  pub few : k ≤ 8
  pub one : 1 ≤ a
  pub within : a ≤ k
  pub ascending : (q : ℕ) → a ≤ q → q < k → get_or start q 0 ≤ get_or start (q + 1) 0
  pub fits : (q : ℕ) → a ≤ q → q < k → get_or start (q + 1) 0 ≤ 4096
  pub each : (q : ℕ) → a ≤ q → q < k → AreReducible table pot tails heads (get_or start q 0) (get_or start (q + 1) 0)

-- The potentials u of the first n of vs, likewise.
abbrev pub AreLevelled : List ℕ → List ℕ → ℕ → List ℕ → Type 0
AreLevelled u vs n w = ArePut (λ v x. x + get_or u (get_or vs 0 0) 0 ≡ get_or u v 0 + 4128705) vs n w

-- Two potentials are no further apart than 63 arcs of cost 65,535, and small.
pub record Near (u first : ℕ) : Type 0 where
  pub above : first ≤ u + 4128705
  pub below : u ≤ first + 4128705
  pub low : u ≤ 3005697240

-- The potentials of the vertices vs are no further apart than that.
abbrev pub CanLevel : List ℕ → List ℕ → Type 0
CanLevel u vs = ((k : ℕ) → k < length vs → (get_or vs k 0 < 64) × Near (get_or u (get_or vs k 0) 0) (get_or u (get_or vs 0 0) 0))
    × (1 ≤ length vs)
