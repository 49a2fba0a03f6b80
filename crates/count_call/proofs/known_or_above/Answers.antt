-- The two cases of the definition.
use Rattle.postman.specs.Refusal.{given}
use Rattle.postman_laws.specs.Laws.TreeCount.{counted_known, counted_above}
use native.Mathlib.Omega.{arith}
use mathlib.Core.Path.{sym, ap}
use Rattle.count_call.proofs.known_or_above.Goals as goal

pub returns-then-n-gt4294967295 : goal.returns-then-n-gt4294967295
returns-then-n-gt4294967295 c = sym (ap given (counted_above _ c.if-n-gt4294967295.true))

pub returns : goal.returns
returns c = sym (ap given (counted_known _ (omega arith)))
