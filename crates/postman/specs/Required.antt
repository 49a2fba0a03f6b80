-- "Required vertices: tails and heads of must arcs."
use Rattle.std.specs.Prelude.{Bool, ◌||◌, List, map, ℕ, eqb}
use Rattle.postman.specs.Lists.{select, any_of, below, sum_of}
use Rattle.postman.specs.Plan.{Plan, required_arcs}

unfoldable pub is_required : Plan → ℕ → Bool
unfolding any_of required_arcs
is_required p v = any_of (λ a. eqb a.tail v || eqb a.head v) (required_arcs p)

-- Each once, ascending.
unfoldable pub required : Plan → List ℕ
unfolding select below is_required
required p = select (is_required p) (below p.n)

-- "R is the sum of checking costs." Of the must arcs, that is.
unfoldable pub required_cost : Plan → ℕ
unfolding sum_of required_arcs
required_cost p = sum_of (map (λ a. a.service) (required_arcs p))
