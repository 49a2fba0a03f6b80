-- `field` meets its contract. The loop's invariant: r is the field of the first i bits, and below 65,536.
use mathlib.Core.Path.{◌≡◌}
use Prim.Native.Nat.{◌-◌, ◌<◌, ◌≤◌}
use Rattle.postman.specs.BitField.{field_at}
use Rattle.bits.proofs.field.Given as goal

abbrev pub invariant-loop-i : goal.invariant-loop-i
invariant-loop-i l = (l.i ≤ l.width) × (l.r ≡ field_at l.s l.at l.i) × (l.r < 65536)

abbrev pub decreases-loop-i : goal.decreases-loop-i
decreases-loop-i l = l.width - l.i
