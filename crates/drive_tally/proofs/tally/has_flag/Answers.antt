-- The invariant: no flag before the kth is set.
use native.Mathlib.Omega.{arith}
use Rattle.drive_tally.specs.Laws.Tally.{flag_found, no_flag}
use Rattle.drive_tally.proofs.tally.has_flag.Goals as goal

pub returns-then-flag : goal.returns-then-flag
returns-then-flag c =
    let v = c.loop-flag in
    flag_found c.args.due v.flag-index (omega arith) c.if-flag.true

pub returns : goal.returns
returns c =
    let v = c.loop-flag in
    no_flag c.args.due (λ j l. v.invariant j (omega arith))
