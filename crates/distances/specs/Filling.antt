-- The entries of a page, filled in one search after the other.
use Rattle.std.specs.Prelude.{◌≡◌, cond, List, ℕ, ◌≤◌, ◌<◌, length, get_or, eqb}
use Rattle.postman.specs.Plan.{Plan}
use Rattle.postman.specs.DistanceCall.{first, second, entry}

-- An entry once the row of a source is known.
abbrev pub entry_by : ℕ → List ℕ → ℕ → ℕ → ℕ → ℕ
entry_by source row from to old = cond (eqb from source) (get_or row to 0) old

-- The list once the entries of the pairs are `new`, each by its pair and by what it was; those after the pairs are untouched.
pub record IsPut (new : ℕ → ℕ → ℕ) (pairs old now : List ℕ) : Type 0 where
  pub same : length now ≡ length old
  pub put : (k : ℕ) → k < length pairs → get_or now k 0 ≡ new (get_or pairs k 0) (get_or old k 0)
  pub kept : (k : ℕ) → length pairs ≤ k → get_or now k 0 ≡ get_or old k 0

-- By a row, and by the distances of one search.
abbrev pub IsRowPut : ℕ → List ℕ → List ℕ → List ℕ → List ℕ → Type 0
IsRowPut source row pairs old now = IsPut (λ x e. entry_by source row (first x) (second x) e) pairs old now

abbrev pub IsSearchPut : Plan → ℕ → List ℕ → List ℕ → List ℕ → Type 0
IsSearchPut p source pairs old now = IsPut (λ x e. cond (eqb (first x) source) (entry p x) e) pairs old now
