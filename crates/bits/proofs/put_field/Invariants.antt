-- `put_field` meets its contract. The loop's invariant: the first i bits of the field are put.
use mathlib.Core.Path.{◌≡◌}
use Prim.Native.Nat.{◌-◌, ◌≤◌}
use lib.ListN.{length}
use Rattle.bits.specs.FieldUpdate.{put_bits}
use Rattle.bits.proofs.put_field.Given as goal

abbrev pub invariant-loop-i : goal.invariant-loop-i
invariant-loop-i l = (l.i ≤ l.width) × (length l.s ≡ length l.initial.s) × (l.s ≡ put_bits l.initial.s l.at l.width l.v l.i)

abbrev pub decreases-loop-i : goal.decreases-loop-i
decreases-loop-i l = l.width - l.i
