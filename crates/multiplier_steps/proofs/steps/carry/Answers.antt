-- Half of a difference is small, and so is the sum.
use lib.IntN.{ℤ, ◌+ℤ◌, ◌-ℤ◌}
use lib.Signed.{shr_z}
use mir.Syntax.{w64}
use mir.Val.{SFits}
use native.Mathlib.Omega.{arith}
use Rattle.residual_search.specs.Search.{beyond}
use Rattle.integers.specs.Linear.{z, zl, zz, back64, Within}
use Rattle.multiplier_steps.specs.Laws.Steps.{half_small}
use Rattle.multiplier_steps.proofs.steps.carry.Goals as goal

difference_small : (a b : ℤ) → Within beyond a → Within beyond b → Within 2199023255552 (a -ℤ b)
difference_small a b h k = record { low = simp zl (omega (arith, z)); high = simp zl (omega (arith, z)) }

small_fits : (a : ℤ) → Within 2199023255552 a → SFits w64 a
small_fits a h = simp zz (omega (arith, z))

sum_fits : (a b : ℤ) → Within beyond a → Within 2199023255552 b → SFits w64 (a +ℤ b)
sum_fits a b h k = simp zz (omega (arith, z))

pub returns : goal.returns
returns c =
    let d = c.args.x -ℤ c.args.before in
    let small = difference_small c.args.x c.args.before c.requires.1 c.requires.2 in
    let half = half_small 2199023255552 d small in
    let fits = small_fits d small in
    let half_fits = small_fits (shr_z d 2) half in
    let all_fits = sum_fits c.args.y (shr_z d 2) c.requires.0 half in
    simp (back64, c.ranges.y.sfits, c.ranges.x.sfits, c.ranges.before.sfits, fits.sfits, half_fits.sfits, all_fits.sfits)
