-- The two cases of the definition.
use native.Mathlib.Omega.{arith}
use Rattle.round_rule.specs.Laws.Made.{base_left, base_taken}
use borrow.Author.Rules.{rules}
use Rattle.round_rule.proofs.kept.nearer.Goals as goal

pub returns-then-k-left : goal.returns-then-k-left
returns-then-k-left c = base_left _ _ _ c.if-k-left.true

pub returns : goal.returns
returns c = base_taken _ c.args.k _ _ (omega arith) (search rules)
