-- What makes a circuit of the legs, and what a circuit is.
use Rattle.std.specs.Prelude.{◌≡◌, Bool, List, [], ◌∷◌, ℕ, ◌<◌, length, get_or, T}
use Rattle.postman.specs.Lists.{below, occurrences}
use Rattle.postman.specs.Steps.{Permutation}

-- As many legs leave a vertex as enter it, and every set that holds the tail of leg 0, and a leg's head with its tail, holds
-- all tails: each leg can be reached from leg 0.
pub record Eulerian (tails heads : List ℕ) : Type 0 where
  pub some : 0 < length tails
  pub ends : length heads ≡ length tails
  pub balanced : (v : ℕ) → occurrences v tails ≡ occurrences v heads
  pub connected : (X : ℕ → Bool) → T (X (get_or tails 0 0)) → ((e : ℕ) → e < length tails → T (X (get_or tails e 0))
      → T (X (get_or heads e 0)))
      → (e : ℕ) → e < length tails → T (X (get_or tails e 0))

-- `Joined tails heads i w j`: the legs w lead from vertex i to vertex j, each leg's head the next one's tail.
abbrev pub Joined : List ℕ → List ℕ → ℕ → List ℕ → ℕ → Type 0
Joined tails heads i [] j = i ≡ j
Joined tails heads i (e ∷ w) j = (get_or tails e 0 ≡ i) × Joined tails heads (get_or heads e 0) w j

pub record IsCircuit (tails heads w : List ℕ) : Type 0 where
  pub each_once : Permutation w (below (length tails))
  pub closed : Joined tails heads (get_or tails 0 0) w (get_or tails 0 0)
  pub first : get_or w 0 0 ≡ 0
