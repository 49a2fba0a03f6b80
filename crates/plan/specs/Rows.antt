-- A plan's arcs as rows of numbers, and the plan that they stand for.
use Rattle.std.specs.Prelude.{cond, List, [], ◌∷◌, map, ℕ, ltb, get_or, replicate}
use Rattle.postman.specs.Lists.{below}
use Rattle.postman.specs.Plan.{Arc, Plan}
use Rattle.plan.specs.declared.Plan.{Plan as PlanRecord}
use Rattle.plan.specs.Records.{record_at}

-- tail, head, standing, cost, service cost
abbrev pub row_of : Arc → List ℕ
row_of a = a.tail ∷ a.head ∷ a.standing ∷ a.cost ∷ a.service ∷ []

-- The rows of a plan by value, 256 of them: row k is that of arc k, and zeros from m on.
unfoldable pub rows_of : PlanRecord → List (List ℕ)
unfolding below
rows_of p = map (λ k. cond (ltb k p.m) (row_of (record_at p.arcs k)) (replicate 5 0)) (below 256)

abbrev pub arc_in : List ℕ → Arc
arc_in r = record { tail = get_or r 0 0; head = get_or r 1 0; standing = get_or r 2 0; cost = get_or r 3 0; service = get_or r 4 0 }

-- The plan of n vertices whose arcs the rows are.
unfoldable pub plan_in : ℕ → List (List ℕ) → Plan
plan_in n rows = record { n = n; arcs = map arc_in rows }
