-- Tables and multipliers under a numbering.
use Rattle.std.specs.Prelude.{◌≡◌, List, [], map, ℕ, ◌<◌, length, get_or, ℤ, pos}
use Rattle.postman.specs.Lists.{below}
use Rattle.postman.specs.Renumbering.{number_in}

-- 64 numbers, each of them a place of a row.
abbrev pub Inside : List ℕ → Type 0
Inside numbers = (length numbers ≡ 64) × ((v : ℕ) → v < 64 → number_in numbers v < 64)

-- A row, and a table: in each place what the old one has for the vertices of its numbers.
abbrev pub IsRenumberedRow : List ℕ → List ℕ → List ℕ → Type 0
IsRenumberedRow from old new = (j : ℕ) → j < 64 → get_or new j 0 ≡ get_or old (number_in from j) 0

abbrev pub IsRenumberedTable : List ℕ → List (List ℕ) → List (List ℕ) → Type 0
IsRenumberedTable from old new = (i : ℕ) → i < 64 → IsRenumberedRow from (get_or old (number_in from i) []) (get_or new i [])

-- Multipliers carried back, in a list of 64.
unfoldable pub carried_in : List ℕ → List ℤ → List ℤ
unfolding below
carried_in to u = map (λ v. get_or u (number_in to v) (pos 0)) (below 64)
