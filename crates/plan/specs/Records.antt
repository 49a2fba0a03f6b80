-- A plan by value, and the plan that it stands for.
use Rattle.std.specs.Prelude.{List, [], ◌++◌, map, ℕ, ◌-◌, length, get_or, replicate}
use Rattle.postman.specs.Lists.{below}
use Rattle.postman.specs.Plan.{Arc, Plan}
use Rattle.plan.specs.declared.Arc.{Arc as ArcRecord}
use Rattle.plan.specs.declared.Plan.{Plan as PlanRecord}

-- The arc of a record, and the record of an arc.
abbrev pub arc_value : ArcRecord → Arc
arc_value a = record { tail = a.tail; head = a.head; standing = a.standing; cost = a.cost; service = a.service }

abbrev pub record_of : Arc → ArcRecord
record_of a = record { tail = a.tail; head = a.head; standing = a.standing; cost = a.cost; service = a.service }

abbrev pub zero_record : ArcRecord
zero_record = record { tail = 0; head = 0; standing = 0; cost = 0; service = 0 }

-- Arc k of the records. There are 256; a number above reads as zeros, and such a plan is refused for its arc count.
abbrev pub record_at : List ArcRecord → ℕ → Arc
record_at records k = arc_value (get_or records k zero_record)

-- The plan that a plan by value stands for.
unfoldable pub plan_value : PlanRecord → Plan
unfolding below
plan_value p = record { n = p.n; arcs = map (record_at p.arcs) (below p.m) }

-- 256 records: those of the arcs, and zeros after them.
unfoldable pub records_of : List Arc → List ArcRecord
records_of arcs = map record_of arcs ++ replicate (256 - length arcs) zero_record

-- The plan by value for a plan of at most 256 arcs.
unfoldable pub plan_record : Plan → PlanRecord
unfolding records_of
plan_record p = record { n = p.n; m = length p.arcs; arcs = records_of p.arcs }

-- What a refusal leaves in a plan by value: no vertex and no arc.
abbrev pub no_plan : Plan
no_plan = record { n = 0; arcs = [] }
