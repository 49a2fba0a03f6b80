-- Reachability over a table of distances and flags of required vertices: what the loops compute.
use Rattle.std.specs.Prelude.{Bool, false, ◌&&◌, List, ℕ, get_or, eqb}
use Rattle.postman.specs.Lists.{any_of, below}
use Rattle.postman.specs.Steps.{cell}

-- Some required vertex has no path from i; and from some required vertex.
abbrev pub has_no_path : List (List ℕ) → List Bool → ℕ → ℕ → Bool
has_no_path d r i j = get_or r j false && eqb (cell d i j) 4294967295

unfoldable pub misses_some : List (List ℕ) → List Bool → ℕ → Bool
unfolding any_of below
misses_some d r i = any_of (has_no_path d r i) (below 64)

abbrev pub is_cut : List (List ℕ) → List Bool → ℕ → Bool
is_cut d r i = get_or r i false && misses_some d r i

unfoldable pub cuts_off : List (List ℕ) → List Bool → Bool
unfolding any_of below
cuts_off d r = any_of (is_cut d r) (below 64)
