-- The invariant: the first k records are stored.
use Rattle.std.proofs.Common.{◌-◌, ◌≡◌, ◌≤◌}
use Rattle.postman.specs.PlanFile.{edition, arc_of}
use Rattle.plan.specs.Records.{record_of}
use Rattle.record_writer.specs.Stored.{stored_to}
use Rattle.records.proofs.reader.store_arcs.Given as goal

abbrev pub invariant-loop-k : goal.invariant-loop-k
invariant-loop-k l =
    (l.k ≤ l.m) × (l.records ≡ stored_to (λ k. record_of (arc_of l.bytes (edition l.bytes) k)) l.fn.records l.k)

abbrev pub decreases-loop-k : goal.decreases-loop-k
decreases-loop-k l = l.m - l.k
