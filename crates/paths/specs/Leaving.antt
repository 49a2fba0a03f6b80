-- The arcs that leave a vertex, in ascending order, as a chain of numbers: it is what a path is looked up along.
use Rattle.std.specs.Prelude.{◌≡◌, Bool, List, [], ℕ, ◌+◌, ◌-◌, ◌<◌, length, get_or, eqb}
use Rattle.postman.specs.Lists.{first_index, up_from}
use Rattle.plan.specs.Rows.{arc_in}

-- The tail of arc k, and whether that is v.
abbrev pub tail_of : List (List ℕ) → ℕ → ℕ
tail_of rows k = (arc_in (get_or rows k [])).tail

abbrev pub leaves : List (List ℕ) → ℕ → ℕ → Bool
leaves rows v k = eqb (tail_of rows k) v

-- The lowest number from k on of an arc that leaves v; the number of arcs where there is none.
unfoldable pub leaving_from : List (List ℕ) → ℕ → ℕ → ℕ
unfolding first_index up_from
leaving_from rows v k = k + first_index (leaves rows v) (up_from k (length rows - k))

-- In place v the first arc that leaves v; in place 64 + k the next one after arc k that leaves the same vertex.
pub record IsLeavingChain (rows : List (List ℕ)) (chain : List ℕ) : Type 0 where
  pub long : length chain ≡ 320
  pub first : (v : ℕ) → v < 64 → get_or chain v 0 ≡ leaving_from rows v 0
  pub next : (k : ℕ) → k < length rows → get_or chain (64 + k) 0 ≡ leaving_from rows (tail_of rows k) (k + 1)
