-- What the trees of a branch cost at least. Potentials price what is balanced from below, so a tree costs at least what is known of its
-- branch and the reduced costs of the links that are still to be chosen.
use mathlib.Core.List.{List, map, ◌++◌, Memᴰ}
use Rattle.std.specs.Prelude.{ℕ, ◌+◌, ◌-◌, ◌≤◌, get_or}
use Rattle.postman.specs.Lists.{sum_of}
use Rattle.postman.specs.Plan.{Plan}
use Rattle.postman.specs.Link.{Link}
use Rattle.postman.specs.Balancing.{completion_cost}
use Rattle.postman.specs.Steps.{cell}
use Rattle.tree_bounds.specs.Branch.{left_choices}

-- the reduced cost of the way from i to j
abbrev pub reduced_by : List (List ℕ) → List ℕ → ℕ → ℕ → ℕ
reduced_by table potentials i j = cell table i j + get_or potentials j 0 - get_or potentials i 0

-- that of links
unfoldable pub reduced_costs : List (List ℕ) → List ℕ → List Link → ℕ
unfolding sum_of
reduced_costs table potentials t = sum_of (map (λ l. reduced_by table potentials l.tail l.head) t)

-- no reduced cost between the vertices vs would be negative, and the potentials are small
pub record ArePotentials (table : List (List ℕ)) (vs potentials : List ℕ) : Type 0 where
  pub feasible : (i j : ℕ) → Memᴰ i vs → Memᴰ j vs → get_or potentials i 0 ≤ cell table i j + get_or potentials j 0
  pub low : (v : ℕ) → get_or potentials v 0 ≤ 3005697240

-- the trees that begin with the links `chosen`, and have the components from a on to choose for, cost at least
-- `value` and the reduced costs of what they choose
abbrev pub Bounds : Plan → List (List ℕ) → List ℕ → ℕ → List Link → ℕ → Type 0
Bounds p table potentials value chosen a =
    (t : List Link) → Memᴰ t (left_choices p a) → value + reduced_costs table potentials t ≤ completion_cost p (chosen ++ t)

-- the reduced costs of what is chosen for the components from a on are at least `rest`
abbrev pub Low : Plan → List (List ℕ) → List ℕ → ℕ → ℕ → Type 0
Low p table potentials rest a = (t : List Link) → Memᴰ t (left_choices p a) → rest ≤ reduced_costs table potentials t
