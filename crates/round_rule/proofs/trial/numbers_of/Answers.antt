-- The two cases of the definition.
use mathlib.Core.Path.{refl}
use native.Mathlib.Omega.{arith}
use Rattle.round_rule.specs.Laws.Made.{drive_numbers, base_numbers}
use Rattle.round_rule.proofs.trial.numbers_of.Goals as goal

pub returns-then-k-gt1000000000 : goal.returns-then-k-gt1000000000
returns-then-k-gt1000000000 c = drive_numbers _ _ c.if-k-gt1000000000.true refl

pub returns-else-k-gt1000000000 : goal.returns-else-k-gt1000000000
returns-else-k-gt1000000000 c = base_numbers c.args.k _ (omega arith) refl
