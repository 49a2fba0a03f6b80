-- The balancing of a plan: of its required arcs, in file order, and then of the links of t.
use Rattle.std.specs.Prelude.{List, ◌++◌, map, ℕ}
use Rattle.postman.specs.Plan.{Plan, required_arcs}
use Rattle.postman.specs.Required.{required}
use Rattle.postman.specs.Link.{Link}
use Rattle.residual_search.specs.Step.{State, empty, add_all}

-- The required arcs, from tail to head.
unfoldable pub required_ends : Plan → List Link
unfolding required_arcs
required_ends p = map (λ a. record { tail = a.tail; head = a.head }) (required_arcs p)

-- The state that counts them and the links of t, over distances d.
unfoldable pub balance : (ℕ → ℕ → ℕ) → Plan → List Link → State
unfolding add_all empty required_ends required
balance d p t = add_all d (required p) empty (required_ends p ++ t)
