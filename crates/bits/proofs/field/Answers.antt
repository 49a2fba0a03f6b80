-- `field` meets its contract. The loop's invariant: r is the field of the first i bits, and below 65,536.
use mathlib.Core.Path.{◌≡◌, refl}
use mathlib.Core.List.{List}
use Prim.Native.Nat.{ℕ, ◌+◌, ◌*◌, ◌<◌, ◌≤◌}
use native.Mathlib.Nat.{lt_of_lt_of_le}
use native.Mathlib.Omega.{arith}
use lib.Pow.{pow_mono}
use Rattle.postman.specs.BitField.{field_at, number}
use Rattle.postman_laws.specs.Laws.BitField.{bit_lt, field_lt, field_more}
use Rattle.bits.proofs.field.Goals as goal

field_small : (l : List ℕ) (a w : ℕ) → w ≤ 16 → field_at l a w < 65536
field_small l a w h = lt_of_lt_of_le (field_lt l a w) (pow_mono {j = 16} h)

pub loop-i-init : goal.loop-i-init
unfolding field_at number
loop-i-init c = (omega arith, refl, omega arith)

pub overflow_add-r : goal.overflow_add-r
overflow_add-r c = omega (arith, c.bit.ensures, bit_lt c.args.s.now (c.args.at + c.loop-i.i))

pub loop-i-preserved : goal.loop-i-preserved
loop-i-preserved c =
    let v = c.loop-i in
    let e : v.r * 2 + c.bit.result ≡ field_at c.args.s.now c.args.at (v.i + 1) =
    omega (arith, field_more c.args.s.now c.args.at v.i, c.bit.ensures)
    in
    (omega arith, e, omega (arith, field_small c.args.s.now c.args.at (v.i + 1) (omega arith)))
