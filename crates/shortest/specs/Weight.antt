-- Cost and number of arcs in one number: an arc weighs 64 × its cost + 1. A path that enters no vertex twice has at
-- most 63 arcs, so that of two such paths the cheaper is lighter, and of two that cost the same the one of fewer arcs.
-- Every arc weighs something, whatever it costs.
use Rattle.std.specs.Prelude.{cond, List, map, ℕ, ◌+◌, ◌*◌, ◌/◌, ltb}
use Rattle.postman.specs.Plan.{Arc, Plan}
use Rattle.postman.specs.Distance.{no_path}
use Rattle.postman.specs.Plan.{Arc, arc_at}

-- The arc, and the plan, with weights for costs.
abbrev pub heavy : Arc → Arc
heavy a = record { tail = a.tail; head = a.head; standing = a.standing; cost = 64 * a.cost + 1; service = a.service }

abbrev pub weighted : Plan → Plan
weighted p = record { n = p.n; arcs = map heavy p.arcs }

-- The cost of a lightest path, by its weight. `Laws.Weight`: from the distances of the weighted plan it gives those of the plan.
unfoldable pub unweighted : ℕ → ℕ
unfolding no_path
unweighted w = cond (ltb w no_path) (w / 64) no_path

-- The vertices that a walk enters, in their order.
abbrev pub entered : List Arc → List ℕ → List ℕ
entered arcs w = map (λ k. (arc_at arcs k).head) w
