-- The search that ends once the goal is the nearest vertex, before it is settled: what settling it would
-- change is no nearer than the goal. `Laws.Until`.
use Rattle.std.proofs.Math.Bool.{cond}
use Rattle.std.specs.Prelude.{List, eqb}
use Prim.Native.Nat.{ℕ, zero, suc, ◌+◌, ◌-◌}
use Rattle.residual_search.specs.Search.{Found, nearest, start, round}

module _ (ℓ : ℕ → ℕ → ℕ) (vs : List ℕ) (t : ℕ) where
  -- At most n rounds: until the goal is the nearest.
  unfoldable pub rounds_until : ℕ → ℕ → ℕ → Found → Found
  unfolding round nearest
  rounds_until goal zero k s = s
  rounds_until goal (suc n) k s =
      cond (eqb (nearest vs goal s.distance s.rank) goal) s (rounds_until goal n (k + 1) (round ℓ vs t goal k s))

  -- The search until the goal is the nearest, or so many vertices are settled.
  unfoldable pub until : ℕ → ℕ → Found
  unfolding rounds_until start
  until goal most = rounds_until goal (most - 1) 1 (start ℓ vs t)

-- How many vertices are to be settled at most, of n: t alone, where it is the goal.
abbrev pub settled_by : ℕ → ℕ → ℕ → ℕ
settled_by t goal n = cond (eqb t goal) 1 n
