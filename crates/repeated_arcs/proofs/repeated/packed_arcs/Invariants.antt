-- The invariant: the numbers before the kth are those of the arcs.
use Prim.Native.Nat.{ℕ, ◌<◌}
use Rattle.postman.specs.PlanFile.{IsRecord}
use Rattle.plan.specs.Records.{record_at}
use Rattle.plan.specs.Laws.Prefix.{Prefix}
use Rattle.repeated_arcs.specs.Packed.{packed_arc}
use Rattle.repeated_arcs.proofs.repeated.packed_arcs.Given as goal

abbrev pub invariant-loop-k : goal.invariant-loop-k
invariant-loop-k l = Prefix 256 0 (λ j. packed_arc (record_at l.fn.arcs j)) l.numbers l.k × ((j : ℕ) → j < l.k → IsRecord (record_at l.fn.arcs j))
