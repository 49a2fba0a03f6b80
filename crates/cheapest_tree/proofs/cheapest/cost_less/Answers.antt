-- The two cases of the definition; the difference of two costs fits.
use Rattle.cheapest_tree.specs.CostMatrix.{less}
use Rattle.integers.specs.Linear.{z, zz, back64}
use mir.Facts.{to_z-of_z}
use native.Mathlib.Omega.{arith}
use mathlib.Core.Path.{◌∙◌}
use Rattle.cheapest_tree.proofs.cheapest.cost_less.Goals as goal

pub returns-then-a-m : goal.returns-then-a-m
unfolding less
returns-then-a-m c = rw (simp (back64, c.ranges.a.sfits, c.ranges.m.sfits) at c.if-a-m.true)

pub overflow_sub-result : goal.overflow_sub-result
overflow_sub-result c = simp zz (omega (arith, z, simp zz at c.requires.0, simp zz at c.requires.1, simp zz at c.requires.2, simp zz at c.requires.3))

pub returns-else-a-m : goal.returns-else-a-m
unfolding less
returns-else-a-m c = to_z-of_z (overflow_sub-result c) ∙ simp (back64, c.ranges.a.sfits, c.ranges.m.sfits) (rw (simp (back64, c.ranges.a.sfits, c.ranges.m.sfits) at c.if-a-m.false))
