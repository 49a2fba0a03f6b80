-- The sum of the trees fits.
use Rattle.round_rule.specs.Laws.Made.{counted_as}
use borrow.Author.Rules.{rules}
use Rattle.round_rule.proofs.kept.count.Goals as goal

pub returns : goal.returns
returns c = counted_as c.args.k _ _ _ (search rules)
