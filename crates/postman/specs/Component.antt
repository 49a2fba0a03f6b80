-- Components (document 01: parts): "the required vertices joined by must arcs, direction ignored; numbered from 0 by their lowest vertex".
use Rattle.std.specs.Prelude.{Bool, not, ◌&&◌, List, [], ◌∷◌, ℕ, length, ltb}
use Rattle.postman.specs.Lists.{select, any_of, first_index}
use Rattle.postman.specs.Plan.{Arc, Plan, required_arcs}
use Rattle.postman.specs.Required.{required}
use Rattle.postman.specs.Distance.{has_path}

-- Each arc in both directions, open and at no cost.
unfoldable pub both_ways : List Arc → List Arc
both_ways [] = []
both_ways (a ∷ arcs) =
    record { tail = a.tail; head = a.head; standing = 0; cost = 0; service = 0 }
    ∷ record { tail = a.head; head = a.tail; standing = 0; cost = 0; service = 0 } ∷ both_ways arcs

-- The graph of the required arcs, direction ignored.
unfoldable pub required_graph : Plan → Plan
unfolding both_ways required_arcs
required_graph p = record { n = p.n; arcs = both_ways (required_arcs p) }

unfoldable pub joined : Plan → ℕ → ℕ → Bool
unfolding has_path required_graph
joined p u v = has_path (required_graph p) u v

-- The lowest vertex of each component, ascending.
unfoldable pub lowest : Plan → List ℕ
unfolding select any_of joined required
lowest p = select (λ v. not (any_of (λ u. ltb u v && joined p u v) (required p))) (required p)

-- "k is their number."
unfoldable pub component_count : Plan → ℕ
unfolding lowest
component_count p = length (lowest p)

-- The component of a vertex: the place of the lowest vertex that it is joined to.
unfoldable pub component : Plan → ℕ → ℕ
unfolding lowest first_index joined
component p v = first_index (λ r. joined p r v) (lowest p)
