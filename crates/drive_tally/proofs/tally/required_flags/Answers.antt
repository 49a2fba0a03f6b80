-- The invariant: the flags of the rows before the kth say which are those of must arcs, and no other flag is set.
use native.Mathlib.Omega.{arith}
use Rattle.drive_tally.specs.Laws.Tally.{none_flagged, all_flagged}
use Rattle.drive_tally.proofs.tally.required_flags.Goals as goal

pub loop-k-init : goal.loop-k-init
loop-k-init c = none_flagged c.args.arcs.now

pub returns : goal.returns
returns c =
    let v = c.loop-k in
    all_flagged c.args.arcs.now v.due v.k (omega arith) v.invariant
