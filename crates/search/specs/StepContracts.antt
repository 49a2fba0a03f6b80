-- What the functions ask and answer.
use Rattle.std.specs.Prelude.{◌≡◌, List, ℕ, ◌+◌, ◌-◌, ◌≤◌, length, set}
use Rattle.postman.specs.Plan.{Plan}
use Rattle.postman.specs.Link.{Link}
use Rattle.postman.specs.Component.{component_count}
use Rattle.postman.specs.Balancing.{completion_cost}
use Rattle.postman.specs.Steps.{cell}
use Rattle.residual_search.specs.Step.{add}
use Rattle.branches.specs.declared.branch.Branch.{Branch}
use Rattle.search.specs.declared.last.Completed.{Completed}
use Rattle.tree_bounds.specs.declared.pricing.Pricing.{Pricing}
use Rattle.branches.specs.declared.progress.Progress.{Progress}
use Rattle.branches.specs.Links.{links_in}
use Rattle.branches.specs.Progress.{try_tree, advance}
use Rattle.tree_bounds.specs.Bound.{Low}
use Rattle.tree_bounds.specs.Reducible.{AreLevelled, CanLevel}
use Rattle.tree_bounds.specs.Pricing.{Prices}
use Rattle.branches.specs.Holding.{held_in}
use Rattle.branches.specs.Branches.{CanLink, chosen_in, repriced_branch, state_in}

-- The link from tail to head can complete a tree, by the potentials w.
pub record CanComplete (table : List (List ℕ)) (vs f : List ℕ) (b : Branch) (w : List ℕ) (tail head : ℕ) : Type 0 where
  pub one : 1 ≤ b.a
  pub few : b.a ≤ 8
  pub link : CanLink table vs (state_in f (repriced_branch b w)) tail head
  pub fixed_small : b.fixed ≤ 100000000
  pub cost_small : (add (cell table) vs (state_in f (repriced_branch b w)) tail head).cost ≤ 3000000000000
  pub level : CanLevel (add (cell table) vs (state_in f (repriced_branch b w)) tail head).potentials vs

-- Its tree was tried, and the potentials are those that it has raised, from that of the first vertex on.
pub record IsCompleted (table : List (List ℕ)) (vs f : List ℕ) (b : Branch) (w : List ℕ) (tail head : ℕ) (g : Progress)
    (r : Completed) : Type 0 where
  pub tried : (m : ℕ)
      → held_in m r.progress
      ≡ try_tree (λ t. b.fixed + cell table tail head + (add (cell table) vs (state_in f (repriced_branch b w)) tail head).cost)
      (held_in m g)
      (links_in m (set b.tails (b.a - 1) tail) (set b.heads (b.a - 1) head))
  pub levelled : AreLevelled (add (cell table) vs (state_in f (repriced_branch b w)) tail head).potentials vs (length vs) r.potentials

-- Prices of a branch, and their bound.
pub record IsBranchPriced (p : Plan) (table : List (List ℕ)) (b : Branch) (r : Pricing) : Type 0 where
  pub prices : Prices p table (chosen_in b) b.a r
  pub rest : ℕ
  pub low : Low p table r.potentials rest (b.a + 1)
  pub sum : r.bound ≡ b.fixed + r.value + rest
  pub small : rest ≤ 32000000000

-- The trees ts were gone through.
abbrev pub IsExplored : Plan → List (List Link) → Progress → Progress → Type 0
IsExplored p ts before after = held_in (component_count p - 1) after ≡ advance (completion_cost p)
    (held_in (component_count p - 1) before) ts
