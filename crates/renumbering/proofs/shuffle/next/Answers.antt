-- The product is below 2 to the 47.
use mathlib.Core.Path.{refl}
use native.Mathlib.Omega.{arith}
use Rattle.renumbering.specs.Shuffle.{modulus, following}
use Rattle.renumbering.proofs.shuffle.next.Goals as goal

pub overflow_mul-result : goal.overflow_mul-result
unfolding modulus
overflow_mul-result c = record { fits = omega arith }

pub returns : goal.returns
unfolding modulus following
returns c = (refl, omega arith)
