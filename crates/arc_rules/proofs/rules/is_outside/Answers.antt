-- `is_outside` meets its contract: the tests that the code makes are those of the definition.
use Rattle.std.proofs.Common.{lt-ltb, le-ltb}
use Rattle.postman.specs.PlanFile.{is_outside}
use Rattle.arc_rules.proofs.rules.is_outside.Goals as goal

pub returns-then-x-low : goal.returns-then-x-low
unfolding is_outside
returns-then-x-low c = simp (lt-ltb _ _ c.if-x-low.true)

pub returns-else-x-low : goal.returns-else-x-low
unfolding is_outside
returns-else-x-low c = simp (le-ltb _ _ c.if-x-low.false)
