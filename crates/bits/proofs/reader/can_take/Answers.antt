-- `can_take` meets its contract: each test is one of the definition's, and the last counts bytes in place of bits.
use native.Mathlib.Omega.{arith}
use Rattle.bits.specs.Laws.Taking.{too_wide, too_far, if_it_ends}
use Rattle.bits.proofs.reader.can_take.Goals as goal

pub returns-then-width-gt16 : goal.returns-then-width-gt16
returns-then-width-gt16 c = let a = c.args in too_wide a.file.now a.at a.width (omega arith)

pub returns-then-at-gt12000 : goal.returns-then-at-gt12000
returns-then-at-gt12000 c = let a = c.args in too_far a.file.now a.at a.width (omega arith) (omega arith)

pub returns : goal.returns
returns c = let a = c.args in if_it_ends a.file.now a.at a.width (omega arith) (omega arith)
