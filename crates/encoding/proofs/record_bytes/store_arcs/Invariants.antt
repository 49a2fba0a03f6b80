-- The loop's invariant: the first k records are the arcs', and the bytes after them are as they were.
use mathlib.Core.Path.{◌≡◌}
use mathlib.Core.List.{◌++◌, map, flat_map}
use Prim.Native.Nat.{◌*◌}
use lib.ListN.{length, drop}
use Rattle.postman.specs.Lists.{below}
use Rattle.plan.specs.Records.{record_at}
use Rattle.encoding.specs.RecordBytes.{arc_bytes}
use Rattle.encoding.proofs.record_bytes.store_arcs.Given as goal

abbrev pub invariant-loop-k : goal.invariant-loop-k
invariant-loop-k l = (length l.lent ≡ length l.initial.lent) × (l.lent ≡ flat_map arc_bytes (map (record_at l.fn.arcs) (below l.k)) ++ drop (7 * l.k) l.initial.lent)
