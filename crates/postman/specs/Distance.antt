-- "d(i,j): least cost of a path of arcs that aren't closed from i to j; d(i,i) = 0; 4,294,967,295 stands for
-- no path. […] Must arcs may serve in paths."
use Rattle.std.specs.Prelude.{Bool, cond, ◌&&◌, List, ℕ, zero, suc, ◌+◌, ◌-◌, eqb, ltb}
use Rattle.postman.specs.Lists.{select, least}
use Rattle.postman.specs.Plan.{Arc, Plan, is_open}

unfoldable pub no_path : ℕ
no_path = 4294967295

-- The open arcs that leave vertex i.
unfoldable pub arcs_from : List Arc → ℕ → List Arc
unfolding select
arcs_from arcs i = select (λ a. is_open a && eqb a.tail i) arcs

-- The least cost of a walk of at most k arcs from i to j, by its first arc.
unfoldable pub distance_within : List Arc → ℕ → ℕ → ℕ → ℕ
unfolding no_path arcs_from least
distance_within arcs zero i j = cond (eqb i j) 0 no_path
distance_within arcs (suc k) i j = cond (eqb i j) 0 (least no_path (λ a. a.cost + distance_within arcs k a.head j) (arcs_from arcs i))

-- d(i,j): n − 1 arcs are enough. `Laws.Distance`: it is the least over all walks, of any length.
unfoldable pub distance : Plan → ℕ → ℕ → ℕ
unfolding distance_within
distance p i j = distance_within p.arcs (p.n - 1) i j

unfoldable pub has_path : Plan → ℕ → ℕ → Bool
unfolding distance no_path
has_path p i j = ltb (distance p i j) no_path
