-- After i turns the sum is that of the first i vertices.
use mathlib.Core.Path.{◌≡◌}
use Rattle.lagrangian.specs.Price.{price_of}
use Rattle.lagrangian.proofs.bound.price.Given as goal

abbrev pub invariant-loop-i : goal.invariant-loop-i
invariant-loop-i l = l.sum ≡ price_of l.u l.imbalance l.i
