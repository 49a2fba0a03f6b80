-- The invariant: the rows before the ith are begun.
use Prim.Native.Nat.{◌-◌}
use lib.ListN.{replicate}
use Rattle.postman.specs.Distance.{no_path}
use Rattle.shortest.specs.Relaxation.{start_row}
use Rattle.shortest.specs.Laws.Columns.{Changed}
use Rattle.shortest.proofs.columns.start.Given as goal

abbrev pub invariant-loop-i : goal.invariant-loop-i
invariant-loop-i l = Changed (λ j. replicate 64 no_path) start_row l.c l.i

abbrev pub decreases-loop-i : goal.decreases-loop-i
decreases-loop-i l = 64 - l.i
