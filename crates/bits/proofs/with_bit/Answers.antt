-- `with_bit` meets its contract: the byte with the bit is a byte again.
use Prim.Native.Nat.{◌+◌, ◌*◌, ◌/◌, ◌%◌, ◌<◌}
use native.Mathlib.Omega.{arith}
use Rattle.bits.specs.Laws.FieldUpdate.{with_as, with_lt}
use Rattle.bits.proofs.with_bit.Goals as goal

pub overflow_cast-result : goal.overflow_cast-result
overflow_cast-result c =
    let a = c.args in
    let p = c.power-p.result in
    let h : (a.x / (p * 2) * 2 + a.b) * p + a.x % p < 256 =
    rw (with_as a.x a.k a.b p c.power-p.ensures) (with_lt a.x a.k a.b c.requires.1 c.ranges.x.fits c.requires.0) in
    omega (arith, h)

pub returns : goal.returns
returns c = with_as c.args.x c.args.k c.args.b c.power-p.result c.power-p.ensures
