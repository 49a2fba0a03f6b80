-- Every vertex keeps its number.
use Rattle.round_rule.specs.Laws.Made.{begun_as}
use borrow.Author.Rules.{rules}
use Rattle.round_rule.proofs.kept.begin.Goals as goal

pub returns : goal.returns
returns c = begun_as _ _ _ _ _ _ _ _ _ c.identity.ensures (search rules) (rw c.from.ensures at c.saturating_sub.ensures)
