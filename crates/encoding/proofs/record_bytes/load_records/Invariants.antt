-- The loop's invariant: the first k records are those that are lent, and the later ones are zeros.
use mathlib.Core.Path.{◌≡◌}
use Prim.Native.Nat.{◌/◌, ◌≤◌, ◌-◌}
use lib.ListN.{length}
use Rattle.record_writer.specs.Stored.{stored_to}
use Rattle.encoding.specs.Laws.RecordBytes.{lent_record}
use Rattle.encoding.proofs.record_bytes.load_records.Given as goal

abbrev pub invariant-loop-k : goal.invariant-loop-k
invariant-loop-k l = (l.k ≤ l.count) × (l.count ≤ 256) × (l.count ≤ length l.lent / 7) × (l.arcs ≡ stored_to (lent_record l.lent) l.initial.arcs l.k)

abbrev pub decreases-loop-k : goal.decreases-loop-k
decreases-loop-k l = l.count - l.k
