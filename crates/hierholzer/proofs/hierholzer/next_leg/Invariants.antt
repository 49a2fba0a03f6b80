-- No leg before e is unused and out of v. A leg that passes is then the first; at the end there is none.
use Prim.Native.Nat.{ℕ, ◌<◌}
use lib.Dec.{T}
use mathlib.Core.Bool.{not}
use Rattle.hierholzer.specs.Held.{is_unused}
use Rattle.hierholzer.proofs.hierholzer.next_leg.Given as goal

abbrev pub invariant-loop-e : goal.invariant-loop-e
invariant-loop-e l = ((k : ℕ) → k < l.e → T (not (is_unused l.tails l.used l.v k)))
