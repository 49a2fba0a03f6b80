-- What writing takes from a lent list.
use Rattle.std.specs.Prelude.{cond, List, map, ℕ, length, get_or, replicate, ltb}
use Rattle.postman.specs.Plan.{Plan as Graph}
use Rattle.plan.specs.declared.Arc.{Arc}
use Rattle.plan.specs.declared.Plan.{Plan}
use Rattle.plan.specs.Records.{arc_value, zero_record}
use Rattle.record_writer.specs.Stored.{stored_to}

-- "Writing takes n and a list of records (m is its length)."
abbrev pub list_plan : ℕ → List Arc → Graph
list_plan n records = record { n = n; arcs = map arc_value records }

-- The lesser of two numbers.
abbrev pub at_most : ℕ → ℕ → ℕ
at_most n limit = cond (ltb n limit) n limit

-- A plan by value holds 256 records: those of the list, and zeros after them.
unfoldable pub loaded : List Arc → List Arc
loaded records = stored_to (λ k. get_or records k zero_record) (replicate 256 zero_record) (at_most (length records) 256)

-- Its arc count is the list's length, or 257 where the list is longer: both are outside the limits.
abbrev pub count_of : ℕ → ℕ
count_of m = at_most m 257

abbrev pub counted_plan : ℕ → ℕ → List Arc → Plan
counted_plan n m arcs = record { n = n; m = count_of m; arcs = arcs }
