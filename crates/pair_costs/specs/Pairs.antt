-- The matrix of a plan: to enter component t from component s costs the least reduced cost of a pair of required vertices, from one of s to
-- one of t. No entry is missing, also where no link leads from s to t.
use Rattle.std.specs.Prelude.{◌≡◌, ◌≢◌, ℕ, ◌-◌, ◌<◌, ◌≤ℤ◌}
use mathlib.Core.List.{List, Memᴰ}
use Rattle.postman.specs.Lists.{up_from}
use Rattle.postman.specs.Plan.{Plan}
use Rattle.postman.specs.Required.{required}
use Rattle.postman.specs.Component.{component, component_count}
use Rattle.postman.specs.LagrangianBound.{Multipliers, reduced_cost}
use Rattle.cheapest_tree.specs.Cheapest.{Matrix}

-- a pair of required vertices from component s to component t
pub record IsPair (p : Plan) (s t i j : ℕ) : Type 0 where
  pub tail : Memᴰ i (required p)
  pub head : Memᴰ j (required p)
  pub from : component p i ≡ s
  pub to : component p j ≡ t

pub record IsPairMatrix (p : Plan) (u : Multipliers) (w : Matrix) : Type 0 where
  pub attained : (s t : ℕ) → s < component_count p → t < component_count p → s ≢ t
      → (i : ℕ) × (j : ℕ) × IsPair p s t i j × (w s t ≡ reduced_cost p u i j)
  pub least : (s t i j : ℕ) → IsPair p s t i j → s ≢ t → w s t ≤ℤ reduced_cost p u i j

-- the components but the root
unfoldable pub others_of : Plan → List ℕ
unfolding up_from component_count
others_of p = up_from 1 (component_count p - 1)
