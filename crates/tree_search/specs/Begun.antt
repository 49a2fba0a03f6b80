-- What a search over trees begins with.
use Rattle.std.specs.Prelude.{◌≡◌, List, ℕ, min}
use Rattle.postman.specs.Plan.{Plan}
use Rattle.postman.specs.Arborescence.{arborescence_count}
use Rattle.small_counts.specs.Matrix.{cap}
use Rattle.tree_bounds.specs.Prepared.{Prepared}
use Rattle.branches.specs.Branches.{IsRoot}
use Rattle.preparation.specs.declared.prepare.Preparation.{Preparation}
use Rattle.preparation.specs.Preparation.{vertices_in}
use Rattle.tree_search.specs.declared.begin.Begun.{Begun}

-- The candidates of the components in order, the branch that has no choice yet, beside the amounts of the required arcs, and the number
-- of all trees, by a count that ends at the cap.
pub record IsBegun (p : Plan) (table : List (List ℕ)) (r : Preparation) (s : Begun) : Type 0 where
  pub prepared :
      Prepared p table (vertices_in r) s.candidates.start s.candidates.source s.candidates.tails s.candidates.heads
      r.network.components
  pub root : IsRoot p table r.base.amounts s.root
  pub number : s.number ≡ min (arborescence_count p) cap
