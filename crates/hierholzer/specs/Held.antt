-- How the code holds the circuit's state: one list of places for both lists, the walk from its start on, what is
-- placed at its end; and a flag for each leg.
use Rattle.std.specs.Prelude.{◌≡◌, Bool, not, ◌&&◌, List, [], ◌∷◌, ℕ, zero, suc, ◌+◌, ◌*◌, ◌≤◌, ◌<◌, length, get_or, drop, T, eqb}
use Rattle.postman.specs.Lists.{below, first_index, occurrences}
use Rattle.hierholzer.specs.Circuit.{step}

-- The first n of the places, the last one first.
unfoldable pub walk_of : List ℕ → ℕ → List ℕ
walk_of order zero = []
walk_of order (suc n) = get_or order n 0 ∷ walk_of order n

pub record HeldPath (tails order used : List ℕ) (depth start : ℕ) : Type 0 where
  pub apart : depth ≤ start
  pub within : start ≤ length order
  pub places : length order ≡ length tails
  pub marks : length tails ≤ length used
  pub flags : (e : ℕ) → e < length tails → get_or used e 0 ≡ occurrences e (walk_of order depth) + occurrences e (drop start order)
  pub tidy : (e : ℕ) → occurrences e (walk_of order depth) + occurrences e (drop start order) ≤ occurrences e (below (length tails))

-- One step taken, from places, a depth and a start to others.
pub record Stepped (tails heads before : List ℕ) (depth start : ℕ) (after used : List ℕ) (depth' start' : ℕ) : Type 0 where
  pub held : HeldPath tails after used depth' start'
  pub walk : walk_of after depth' ≡ (step tails heads (walk_of before depth) (drop start before)).walk
  pub placed : drop start' after ≡ (step tails heads (walk_of before depth) (drop start before)).placed
  pub nearer : 2 * start' + depth + 1 ≡ 2 * start + depth'

-- The first leg out of v whose flag is 0.
unfoldable pub is_unused : List ℕ → List ℕ → ℕ → ℕ → Bool
is_unused tails used v e = eqb (get_or tails e 0) v && eqb (get_or used e 0) 0

unfoldable pub first_unused : List ℕ → List ℕ → ℕ → ℕ
unfolding first_index is_unused below
first_unused tails used v = first_index (is_unused tails used v) (below (length tails))

-- A hint for each vertex: no leg out of it before its hint is unused.
pub record Hints (tails used hints : List ℕ) : Type 0 where
  pub long : length hints ≡ 256
  pub within : (v : ℕ) → get_or hints v 0 ≤ length tails
  pub spent : (v k : ℕ) → k < get_or hints v 0 → T (not (is_unused tails used v k))
