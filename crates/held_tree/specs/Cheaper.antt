-- A tree that costs less than what is known, with the floor.
use Rattle.std.specs.Prelude.{◌≡◌, ℕ, ◌≤◌, ◌<◌, min, get_or, pos}
use Rattle.postman.specs.Plan.{Plan}
use Rattle.postman.specs.Arborescence.{arborescence_count}
use Rattle.postman.specs.PlanCall.{tried_count, best_cost, best_arborescence, lower_bound}
use Rattle.small_counts.specs.Matrix.{cap}
use Rattle.multipliers.specs.Ascent.{multipliers_for}
use Rattle.tree_search.specs.declared.trees.Reached.{Reached}
use Rattle.tree_search.specs.Resumed.{links_by}
use Rattle.held_tree.specs.declared.cheaper.Found.{Found}

-- The best of the first `tries` trees, or of all, and how many these are.
pub record IsBest (p : Plan) (tries : ℕ) (g : Reached) : Type 0 where
  pub tried_is : g.tried ≡ tried_count p tries
  pub cost_is : g.cost ≡ best_cost p tries
  pub links_are : links_by p g ≡ best_arborescence p tries

-- The best of the first `tries` trees, or of all, if it costs less; else the cost that is known. Beside it the floor that the plan call
-- answers, its multipliers, and how many trees there are.
pub record IsCheaper (p : Plan) (cost tries : ℕ) (r : Found) : Type 0 where
  pub tried_is : r.best.tried ≡ tried_count p tries
  pub cheaper : best_cost p tries < cost → IsBest p tries r.best
  pub none_cheaper : cost ≤ best_cost p tries → r.best.cost ≡ cost
  pub floor_is : r.floor ≡ lower_bound p tries (λ i. get_or (multipliers_for p) i (pos 0))
  pub multipliers_are : r.multipliers ≡ multipliers_for p
  pub number_is : r.number ≡ min (arborescence_count p) cap
