-- The loop's invariant: the first k districts are put.
use native.Mathlib.Omega.{arith}
use Rattle.machine_bytes.specs.Laws.MachineBytes.{none_stored, more_stored}
use borrow.Author.Rules.{rules}
use Rattle.machine_bytes.proofs.machine_bytes.store_line.Goals as goal

pub loop-k-init : goal.loop-k-init
loop-k-init c = none_stored _ _ (search rules) c.requires

pub loop-k-preserved : goal.loop-k-preserved
loop-k-preserved c =
    let v = c.loop-k in
    let d = c.store_district in
    more_stored _ _ _ _ v.k _ (omega arith) v.invariant (search rules) d.ensures.0 d.ensures.1
