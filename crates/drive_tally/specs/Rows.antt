-- The plan of lent rows.
use Rattle.std.specs.Prelude.{List, ℕ}
use Rattle.postman.specs.Plan.{Plan}
use Rattle.plan.specs.Rows.{plan_in}

-- Nothing that is asked of a drive goes by the number of vertices, so none is lent.
abbrev pub plan_over : List (List ℕ) → Plan
plan_over rows = plan_in 0 rows
