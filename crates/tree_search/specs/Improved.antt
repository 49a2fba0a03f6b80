-- The first tree of least cost among so many, where it costs less than what is known: a search that does not go into branches that cannot
-- have one.
use Rattle.std.specs.Prelude.{◌≡◌, ℕ, ◌-◌, ◌≤◌, ◌<◌, T}
use Rattle.postman.specs.Plan.{Plan}
use Rattle.postman.specs.Component.{component_count}
use Rattle.postman.specs.PlanCall.{tried_count, is_whole, best_cost, best_arborescence}
use Rattle.branches.specs.Links.{links_in}
use Rattle.small_counts.specs.Matrix.{cap}
use Rattle.tree_search.specs.declared.improve.Searched.{Searched}

-- No tree costs as much: what is known where no tree was tried.
abbrev pub above_costs : ℕ
above_costs = 4000000000000

-- What is asked: none of the first `before` trees costs less than `cost`; and where all trees are tried, the least costs no more, as it is
-- where `cost` is that of a drive.
pub record CanImprove (p : Plan) (cost before tries : ℕ) : Type 0 where
  pub some_tries : 1 ≤ tries
  pub few_tries : tries < cap
  pub within : before ≤ tries
  pub low : cost ≤ above_costs
  pub none_before : 1 ≤ before → cost ≤ best_cost p before
  pub whole_least : T (is_whole p tries) → best_cost p tries ≤ cost

-- What the search gives: the best of the first `tries` trees, or of all, if it costs less; else the cost that is known.
pub record IsImproved (p : Plan) (cost tries : ℕ) (r : Searched) : Type 0 where
  pub tried : r.tried ≡ tried_count p tries
  pub whole : r.whole ≡ is_whole p tries
  pub cheaper : best_cost p tries < cost → (r.cost ≡ best_cost p tries)
      × (links_in (component_count p - 1) r.tails r.heads ≡ best_arborescence p tries)
  pub none_cheaper : cost ≤ best_cost p tries → r.cost ≡ cost

-- The best of the first `budget` trees, or of all.
pub record IsSearched (p : Plan) (budget : ℕ) (r : Searched) : Type 0 where
  pub cost : r.cost ≡ best_cost p budget
  pub tried : r.tried ≡ tried_count p budget
  pub whole : r.whole ≡ is_whole p budget
  pub links : links_in (component_count p - 1) r.tails r.heads ≡ best_arborescence p budget
