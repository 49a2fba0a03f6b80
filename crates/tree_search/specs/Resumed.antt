-- A search over trees that is taken up again.
use Rattle.std.specs.Prelude.{◌≡◌, cond, List, ℕ, ◌+◌, ◌-◌, ◌≤◌, min, length, take, replicate, eqb}
use Rattle.postman.specs.Plan.{Plan}
use Rattle.postman.specs.Link.{Link}
use Rattle.postman.specs.Component.{component_count}
use Rattle.postman.specs.Arborescence.{arborescences, arborescence_count}
use Rattle.postman.specs.Balancing.{completion_cost}
use Rattle.postman.specs.PlanCall.{tried_count, is_whole, best_cost, best_arborescence}
use Rattle.branches.specs.Links.{links_in}
use Rattle.branches.specs.Progress.{Held, held, advance}
use Rattle.tree_search.specs.declared.trees.Reached.{Reached}
use Rattle.tree_search.specs.declared.trees.Resumed.{Resumed}
use Rattle.multipliers.specs.Prepared.{IsTree}
use Rattle.postman.specs.Districts.{turn_trees}

-- What is held before the first tree: zeros.
abbrev pub nothing_held : Reached
nothing_held = record { cost = 0; tails = replicate 8 0; heads = replicate 8 0; tried = 0 }

-- How many trees are tried in a turn, where T are tried in all and n were tried before; and how many are tried after it.
abbrev pub turn_of : ℕ → ℕ → ℕ
turn_of total n = min turn_trees (total - n)

abbrev pub after_turn : ℕ → ℕ → ℕ
after_turn total n = n + turn_of total n

-- The best once n more trees are tried after the first m: of the first n, where none was tried before; else of
-- what is held and the n trees after the first m.
unfoldable pub tried_on : Plan → ℕ → List Link → ℕ → ℕ → Held
unfolding best_cost best_arborescence advance completion_cost arborescences
tried_on p cost links m n =
    cond (eqb m 0) (held (best_cost p n) (best_arborescence p n) 0 0) (advance (completion_cost p) (held cost links m n) (arborescences p))

-- The links that are held, whatever stands in the arrays behind them; and what is held after a turn, whatever was held before it.
abbrev pub links_by : Plan → Reached → List Link
links_by p g = links_in (component_count p - 1) g.tails g.heads

abbrev pub held_after : Plan → ℕ → Reached → Held
held_after p budget g = tried_on p g.cost (links_by p g) g.tried (turn_of (tried_count p budget) g.tried)

-- What a turn gives.
pub record IsResumed (p : Plan) (budget : ℕ) (g : Reached) (r : Resumed) : Type 0 where
  pub total : r.total ≡ tried_count p budget
  pub whole : r.whole ≡ is_whole p budget
  pub tried : r.tried ≡ after_turn (tried_count p budget) g.tried
  pub cost_is : r.cost ≡ (held_after p budget g).cost
  pub links_are : links_in (component_count p - 1) r.tails r.heads ≡ (held_after p budget g).links

-- How far a search is that has tried the first n trees: the least of their costs, and the first tree of that cost, by its links.
pub record IsReached (p : Plan) (n cost : ℕ) (tails heads : List ℕ) : Type 0 where
  pub within : n ≤ arborescence_count p
  pub cost_is : 1 ≤ n → cost ≡ best_cost p n
  pub links_are : 1 ≤ n → links_in (component_count p - 1) tails heads ≡ best_arborescence p n

abbrev pub IsReachedBy : Plan → Reached → Type 0
IsReachedBy p g = IsReached p g.tried g.cost g.tails g.heads

-- The links held in arrays are a tree's.
pub record HoldsTree (p : Plan) (tails heads : List ℕ) : Type 0 where
  pub tails_fit : component_count p - 1 ≤ length tails
  pub heads_fit : component_count p - 1 ≤ length heads
  pub tree : IsTree p (take (component_count p - 1) tails) (take (component_count p - 1) heads)
