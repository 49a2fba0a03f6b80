-- The two cases of the definition.
use native.Mathlib.Omega.{arith}
use Rattle.round_rule.specs.Laws.Made.{drive_left, drive_taken}
use borrow.Author.Rules.{rules}
use Rattle.round_rule.proofs.kept.cheaper.Goals as goal

pub returns-then-cost-k : goal.returns-then-cost-k
returns-then-cost-k c = drive_taken _ c.args.k _ _ c.if-cost-k.true (search rules)

pub returns : goal.returns
returns c = drive_left _ c.args.k _ (omega arith)
