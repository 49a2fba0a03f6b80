-- The drive that is written, as a function of the plan and the budget.
use Rattle.std.specs.Prelude.{List, map, ℕ}
use Rattle.postman.specs.Lists.{below}
use Rattle.postman.specs.Plan.{Plan}
use Rattle.postman.specs.Required.{required}
use Rattle.postman.specs.Distance.{distance}
use Rattle.postman.specs.Link.{Link}
use Rattle.postman.specs.PlanCall.{best_arborescence}
use Rattle.postman.specs.Steps.{cell}
use Rattle.balance.specs.Balance.{balance}
use Rattle.direct_amounts.specs.Direct.{direct}
use Rattle.drive_legs.specs.Drive.{drive}

-- "The table is 64 rows of 64."
unfoldable pub table_of : Plan → List (List ℕ)
unfolding below
table_of p = map (λ i. map (distance p i) (below 64)) (below 64)

-- The amounts that balance the required arcs with the links of t, from surplus to deficit only.
unfoldable pub amounts_of : Plan → List Link → List ℕ
unfolding direct balance table_of
amounts_of p t = direct (required p) (balance (cell (table_of p)) p t).amounts

-- The drive of a tree; and of the first tree of least cost.
abbrev pub tree_drive : Plan → List Link → List ℕ
tree_drive p t = drive p t (amounts_of p t)

unfoldable pub drive_of : Plan → ℕ → List ℕ
unfolding best_arborescence amounts_of drive
drive_of p budget = tree_drive p (best_arborescence p budget)
