-- Costs from all sources side by side, in 64 columns of 64: in place 64 v + i what is known of the cost from i to v.
use Rattle.std.specs.Prelude.{Bool, List, map, ℕ, ◌+◌, ◌*◌, eqb, get_or, set}
use Rattle.postman.specs.Lists.{all_of, below}
use Rattle.shortest.specs.Relaxation.{shorter}

-- The row of the costs from i.
unfoldable pub row_from : List ℕ → ℕ → List ℕ
unfolding below
row_from c i = map (λ v. get_or c (v * 64 + i) 0) (below 64)

-- Whether two such arrays are the same.
unfoldable pub are_same : List ℕ → List ℕ → Bool
unfolding all_of below
are_same a b = all_of (λ x. eqb (get_or a x 0) (get_or b x 0)) (below 4096)

-- A row once its paths may end with an arc from t to h that costs w.
abbrev pub relax_by : ℕ → ℕ → ℕ → List ℕ → List ℕ
relax_by t h w row = set row h (shorter (get_or row t 0) w (get_or row h 0))
