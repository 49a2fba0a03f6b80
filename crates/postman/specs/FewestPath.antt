-- "The shortest_path_lem part shall promise the fewest arcs among the cheapest paths. Among those it gives the lowest list of arc numbers,
-- compared from the front." The drive follows such paths (`Description`).
use Rattle.std.specs.Prelude.{◌≡◌, Bool, true, false, not, ◌&&◌, ◌||◌, List, [], ◌∷◌, map, ℕ, ◌≤◌, length, T, eqb, ltb}
use Rattle.postman.specs.Plan.{Arc, Plan, arc_at}
use Rattle.postman.specs.Drive.{IsWalk, walk_cost}

-- Whether a list comes before another, compared from the front.
unfoldable pub is_before : List ℕ → List ℕ → Bool
is_before v [] = false
is_before [] (y ∷ w) = true
is_before (x ∷ v) (y ∷ w) = ltb x y || (eqb x y && is_before v w)

-- The path from i to j: no walk of any length is cheaper, none of its cost has fewer arcs, and none of its cost and length comes before it.
-- `Laws.FewestPath`: there is no other such path, and it has at most n − 1 arcs.
pub record IsFewestPath (p : Plan) (i j : ℕ) (w : List ℕ) : Type 0 where
  pub walk : IsWalk p.arcs i w j
  pub cheapest : (v : List ℕ) → IsWalk p.arcs i v j → walk_cost p.arcs w ≤ walk_cost p.arcs v
  pub fewest : (v : List ℕ) → IsWalk p.arcs i v j → walk_cost p.arcs v ≡ walk_cost p.arcs w → length w ≤ length v
  pub lowest : (v : List ℕ) → IsWalk p.arcs i v j → walk_cost p.arcs v ≡ walk_cost p.arcs w → length v ≡ length w → T (not (is_before v w))

-- The vertices that a walk from i visits, in their order.
abbrev pub visited : List Arc → ℕ → List ℕ → List ℕ
visited arcs i w = i ∷ map (λ k. (arc_at arcs k).head) w
