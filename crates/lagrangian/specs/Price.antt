-- "sum of u(i) × D(i)", over the numbers of the first n vertices.
use Rattle.std.specs.Prelude.{List, map, ℕ, get_or, ℤ, pos, ◌*ℤ◌}
use Rattle.postman.specs.Lists.{sum_ofℤ, below}

unfoldable pub price_of : List ℤ → List ℤ → ℕ → ℤ
unfolding sum_ofℤ below
price_of u d n = sum_ofℤ (map (λ i. get_or u i (pos 0) *ℤ get_or d i (pos 0)) (below n))
