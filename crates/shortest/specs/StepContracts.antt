-- What a row and a table of distances hold: for vertices from n on too, where d is 0 on the diagonal and else "no path". The same
-- of least weights, by which paths are found.
use Rattle.std.specs.Prelude.{◌≡◌, List, [], ◌++◌, ℕ, ◌+◌, ◌<◌, length, get_or, take, drop}
use Rattle.postman.specs.Plan.{Plan}
use Rattle.postman.specs.Distance.{distance}
use Rattle.shortest.specs.Weight.{weighted, unweighted}

abbrev pub IsRow : Plan → ℕ → List ℕ → Type 0
IsRow p i row = (j : ℕ) → j < 64 → get_or row j 0 ≡ distance p i j

abbrev pub IsTable : Plan → List (List ℕ) → Type 0
IsTable p table = (i j : ℕ) → i < 64 → j < 64 → get_or (get_or table i []) j 0 ≡ distance p i j

-- The table of the least weights; its n rows that are those of vertices; and the weights from the n vertices to j.
abbrev pub AreWeights : Plan → List (List ℕ) → Type 0
AreWeights p table = IsTable (weighted p) table

abbrev pub AreRows : Plan → List (List ℕ) → Type 0
AreRows p rows = (i j : ℕ) → i < p.n → j < 64 → get_or (get_or rows i []) j 0 ≡ distance (weighted p) i j

abbrev pub IsColumn : Plan → ℕ → List ℕ → Type 0
IsColumn p j column = (i : ℕ) → i < p.n → get_or column i 0 ≡ distance (weighted p) i j

-- The costs by a row, and by a table, of least weights.
abbrev pub AreCosts : List ℕ → List ℕ → Type 0
AreCosts weights costs = (j : ℕ) → j < 64 → get_or costs j 0 ≡ unweighted (get_or weights j 0)

abbrev pub AreTableCosts : List (List ℕ) → List (List ℕ) → Type 0
AreTableCosts weights costs = (i : ℕ) → i < 64 → AreCosts (get_or weights i []) (get_or costs i [])

-- A list with the elements from a place on replaced by others, as many as there are of those.
unfoldable pub overwrite : List ℕ → ℕ → List ℕ → List ℕ
overwrite old at new = take at old ++ new ++ drop (at + length new) old
