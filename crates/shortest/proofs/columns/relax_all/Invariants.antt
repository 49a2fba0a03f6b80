-- The invariant: the rows before the ith are relaxed.
use Prim.Native.Nat.{◌-◌}
use Rattle.shortest.specs.Columns.{row_from, relax_by}
use Rattle.shortest.specs.Laws.Columns.{Changed}
use Rattle.shortest.proofs.columns.relax_all.Given as goal

abbrev pub invariant-loop-i : goal.invariant-loop-i
invariant-loop-i l = Changed (row_from l.initial.c) (λ j. relax_by l.t l.h l.w (row_from l.initial.c j)) l.c l.i

abbrev pub decreases-loop-i : goal.decreases-loop-i
decreases-loop-i l = 64 - l.i
