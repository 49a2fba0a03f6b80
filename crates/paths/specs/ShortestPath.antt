-- The path of a leg, as a function of the plan: at each vertex the lowest numbered arc that begins a cheapest path, by
-- weights that count cost first and arcs second.
use Rattle.std.specs.Prelude.{Bool, cond, ◌&&◌, List, [], ◌∷◌, ℕ, zero, suc, ◌+◌, ◌*◌, length, get_or, eqb}
use Rattle.postman.specs.Lists.{first_index, below}
use Rattle.postman.specs.Plan.{Plan, is_open, arc_at}
use Rattle.postman.specs.Distance.{distance}
use Rattle.plan.specs.Rows.{arc_in}
use Rattle.shortest.specs.Weight.{weighted}

-- Arc number k is open, leaves v, and a cheapest path from v to j begins with it.
unfoldable pub begins : Plan → ℕ → ℕ → ℕ → Bool
unfolding distance
begins p v j k =
    is_open (arc_at p.arcs k) && eqb (arc_at p.arcs k).tail v
    && eqb ((arc_at p.arcs k).cost + distance p (arc_at p.arcs k).head j) (distance p v j)

-- The lowest such number; m where there is none.
unfoldable pub next_arc : Plan → ℕ → ℕ → ℕ
unfolding begins first_index below
next_arc p v j = first_index (begins p v j) (below (length p.arcs))

-- The same number of the weighted plan, looked up among rows of arcs and a column of the weights to j. `Laws.Lookup`: they give the same.
unfoldable pub begins_in : List (List ℕ) → List ℕ → ℕ → ℕ → Bool
begins_in rows column v k =
    is_open (arc_in (get_or rows k [])) && eqb (arc_in (get_or rows k [])).tail v
    && eqb (64 * (arc_in (get_or rows k [])).cost + 1 + get_or column (arc_in (get_or rows k [])).head 0) (get_or column v 0)

unfoldable pub next_in : List (List ℕ) → List ℕ → ℕ → ℕ
unfolding begins_in first_index below
next_in rows column v = first_index (begins_in rows column v) (below (length rows))

-- The path from v to j, of at most k arcs.
unfoldable pub path_within : Plan → ℕ → ℕ → ℕ → List ℕ
unfolding next_arc
path_within p zero v j = []
path_within p (suc k) v j = cond (eqb v j) [] (next_arc p v j ∷ path_within p k (arc_at p.arcs (next_arc p v j)).head j)

-- The arc numbers of a cheapest path from i to j, where arcs cost something: n arcs are enough. `Laws.CheapestPath`: it enters no vertex
-- twice, and no cheapest path comes before it.
unfoldable pub cheapest_path : Plan → ℕ → ℕ → List ℕ
unfolding path_within
cheapest_path p i j = path_within p p.n i j

-- The path of a leg. `Laws.ShortestPath`: it is the path of fewest arcs.
unfoldable pub shortest_path : Plan → ℕ → ℕ → List ℕ
unfolding cheapest_path
shortest_path p i j = cheapest_path (weighted p) i j
