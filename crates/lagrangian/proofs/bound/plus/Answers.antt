-- The product of numbers of this size is small, and so is the sum.
use mathlib.Core.Path.{◌∙◌}
use native.Mathlib.Omega.{arith}
use mir.Syntax.{w64}
use mir.Facts.{to_z-of_z}
use lib.IntN.{◌*ℤ◌}
use Rattle.integers.specs.Linear.{z, zl, back64, sfits_k, sfits_abs, abs_k, mul_abs, within_abs}
use Rattle.lagrangian.proofs.bound.plus.Goals as goal

pub overflow_mul-result : goal.overflow_mul-result
overflow_mul-result c =
    simp (back64, c.ranges.u.sfits, c.ranges.d.sfits)
    (sfits_abs w64 (c.args.u *ℤ c.args.d) (let m = mul_abs c.args.u c.args.d 4128705 256 (within_abs c.requires.1) (within_abs c.requires.2) in omega arith))

pub overflow_add-result : goal.overflow_add-result
overflow_add-result c =
    let m = (abs_k (c.args.u *ℤ c.args.d) 1056948480).0 (mul_abs c.args.u c.args.d 4128705 256 (within_abs c.requires.1) (within_abs c.requires.2)) in
    simp (to_z-of_z (overflow_mul-result c)) (simp (back64, c.ranges.u.sfits, c.ranges.d.sfits, c.ranges.sum.sfits) (simp (sfits_k, zl) (omega (arith, z, simp zl at m.0, simp zl at m.1))))

pub returns : goal.returns
returns c = to_z-of_z (overflow_add-result c) ∙ simp (to_z-of_z (overflow_mul-result c)) (simp (back64, c.ranges.u.sfits, c.ranges.d.sfits, c.ranges.sum.sfits))
