-- A plan by its arcs, one by one.
use Rattle.std.specs.Prelude.{map, ℕ}
use Rattle.postman.specs.Lists.{below}
use Rattle.postman.specs.Plan.{Arc, Plan}

-- The plan of n vertices and m arcs.
abbrev pub plan_from : ℕ → (ℕ → Arc) → ℕ → Plan
plan_from n arc m = record { n = n; arcs = map arc (below m) }
