-- The test is the definition's.
use Rattle.round_rule.specs.Laws.Made.{goes_on_as, anew_as}
use Rattle.round_rule.proofs.trial.choose.Goals as goal

pub returns-then-goes_on : goal.returns-then-goes_on
returns-then-goes_on c = goes_on_as _ _ _ _ _ _ c.goes_on.ensures c.if-goes_on.true c.further.ensures

pub returns-else-goes_on : goal.returns-else-goes_on
returns-else-goes_on c = anew_as _ _ _ _ _ _ c.goes_on.ensures c.if-goes_on.false c.exchanges.ensures
