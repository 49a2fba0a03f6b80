-- Relaxing the arcs of a plan, one after the other, in a row of costs from one source.
use Rattle.std.specs.Prelude.{cond, List, [], ◌∷◌, ℕ, ◌+◌, min, get_or, set, replicate}
use Rattle.postman.specs.Plan.{Arc, is_open}
use Rattle.postman.specs.Distance.{no_path}

-- What an arc adds to a path: a closed arc leads nowhere.
unfoldable pub weight : Arc → ℕ
unfolding no_path
weight a = cond (is_open a) a.cost no_path

-- The least of c and a + b, which stops at "no path".
unfoldable pub shorter : ℕ → ℕ → ℕ → ℕ
unfolding no_path
shorter a b c = min c (min (a + b) no_path)

-- The row once its paths may end with the arc a; and with each arc of a list in turn.
unfoldable pub relax_arc : Arc → List ℕ → List ℕ
unfolding weight shorter
relax_arc a row = set row a.head (shorter (get_or row a.tail 0) (weight a) (get_or row a.head 0))

unfoldable pub relax_arcs : List Arc → List ℕ → List ℕ
unfolding relax_arc
relax_arcs [] row = row
relax_arcs (a ∷ arcs) row = relax_arcs arcs (relax_arc a row)

-- The row of the paths of no arc.
unfoldable pub start_row : ℕ → List ℕ
unfolding no_path
start_row source = set (replicate 64 no_path) source 0
