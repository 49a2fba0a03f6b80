-- The invariant: the rows before the ith are begun.
use mathlib.Core.Path.{refl}
use native.Mathlib.Omega.{arith}
use lib.ListN.{replicate, length-replicate}
use Rattle.postman.specs.Distance.{no_path}
use Rattle.shortest.specs.Relaxation.{start_row}
use Rattle.shortest.specs.Laws.Columns.{changed_none, changed_more, start_none}
use Rattle.shortest.proofs.columns.start.Goals as goal

pub loop-i-init : goal.loop-i-init
unfolding no_path
loop-i-init c = changed_none (λ j. replicate 64 no_path) start_row _ (length-replicate 4096 no_path) start_none

pub loop-i-preserved : goal.loop-i-preserved
unfolding start_row
loop-i-preserved c =
    changed_more (λ j. replicate 64 no_path) start_row c.loop-i.c c.loop-i.i c.loop-i.i 0 (omega arith) (omega arith) refl c.loop-i.invariant
