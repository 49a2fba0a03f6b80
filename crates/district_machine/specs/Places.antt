-- The search for the lowest free place.
use Rattle.std.specs.Prelude.{cond, ℕ, ltb}
use Rattle.postman.specs.Districts.{Line, lowest_free}

-- The lowest free place if it is below q, else 8.
unfoldable pub lowest_below : Line → ℕ → ℕ
unfolding lowest_free
lowest_below l q = cond (ltb (lowest_free l) q) (lowest_free l) 8
