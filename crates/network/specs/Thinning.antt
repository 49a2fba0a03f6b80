-- Thinning over a table of distances and flags, that of the pair (i, j) at 64 i + j: what the loops over pairs compute.
use Rattle.std.specs.Prelude.{Bool, false, not, cond, ◌&&◌, List, ℕ, zero, suc, ◌+◌, ◌*◌, length, get_or, set, eqb, ltb}
use Rattle.postman.specs.Lists.{select, any_of, below}
use Rattle.postman.specs.Steps.{cell}

abbrev pub flag : List Bool → ℕ → ℕ → Bool
flag held i j = get_or held (i * 64 + j) false

-- The pairs that thinning starts from: two required vertices, not the same.
abbrev pub is_pair : ℕ → ℕ → Bool → Bool → Bool
is_pair i j a b = not (eqb i j) && a && b

-- The distance of a pair, for sums of 32 bits: 2 to the 30, which no path costs, of what is no pair or is at least as far.
abbrev pub far : ℕ
far = 1073741824

abbrev pub nearby : Bool → ℕ → ℕ
nearby pair d = cond (pair && ltb d far) d far

-- The number of ways by a third vertex to j that cost a, of distances from a row and from the columns; and whether
-- a pair of that distance, not far, has none.
unfoldable pub ways_of : List ℕ → List ℕ → ℕ → ℕ → ℕ
unfolding select below
ways_of row columns j a = length (select (λ k. eqb (get_or row k 0 + get_or columns (j * 64 + k) 0) a) (below 64))

unfoldable pub has_no_way : List ℕ → List ℕ → ℕ → ℕ → Bool
unfolding ways_of
has_no_way row columns j a = ltb a far && eqb (ways_of row columns j a) 0

-- (i, k) and (k, j) are held, and k is on a cheapest way from i to j.
abbrev pub between : List (List ℕ) → List Bool → ℕ → ℕ → ℕ → Bool
between d held i j k = flag held i k && flag held k j && eqb (cell d i j) (cell d i k + cell d k j)

-- The flags once (i, j) has had its turn; once the first j pairs of row i have had theirs; and once the first i rows have.
unfoldable pub turn_at : List (List ℕ) → List Bool → ℕ → ℕ → List Bool
unfolding any_of below
turn_at d held i j = cond (flag held i j && any_of (between d held i j) (below 64)) (set held (i * 64 + j) false) held

unfoldable pub row_thinned : List (List ℕ) → List Bool → ℕ → ℕ → List Bool
unfolding turn_at
row_thinned d held i zero = held
row_thinned d held i (suc j) = turn_at d (row_thinned d held i j) i j

unfoldable pub rows_thinned : List (List ℕ) → List Bool → ℕ → List Bool
unfolding row_thinned
rows_thinned d held zero = held
rows_thinned d held (suc i) = row_thinned d (rows_thinned d held i) i 64
