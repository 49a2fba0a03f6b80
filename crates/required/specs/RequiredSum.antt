-- A sum over the required arcs among the first k arcs: what a loop over the arcs has summed before arc k.
use Rattle.std.specs.Prelude.{Bool, cond, map, ℕ, take}
use Rattle.postman.specs.Lists.{select, sum_of}
use Rattle.postman.specs.Plan.{Arc, Plan, is_required_arc}

unfoldable pub required_sum : (Arc → ℕ) → Plan → ℕ → ℕ
unfolding select sum_of
required_sum g p k = sum_of (map g (select is_required_arc (take k p.arcs)))

-- One end of an arc: the head, or else the tail.
abbrev pub end_of : Bool → Arc → ℕ
end_of heads a = cond heads a.head a.tail
