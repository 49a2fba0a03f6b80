-- The invariant: the rows before the ith are relaxed.
use native.Mathlib.Omega.{arith}
use Rattle.shortest.specs.Columns.{row_from, relax_by}
use Rattle.shortest.specs.Laws.Columns.{changed_more, relaxed_store}
use Rattle.shortest.proofs.columns.relax_all.Goals as goal

pub loop-i-preserved : goal.loop-i-preserved
loop-i-preserved c =
    let l = c.loop-i-test.true in
    changed_more (row_from c.args.c.now) (λ j. relax_by c.args.t c.args.h c.args.w (row_from c.args.c.now j)) c.loop-i.c c.args.h c.loop-i.i _ c.requires.1 l
    (relaxed_store c.loop-i.c c.args.c.now c.args.t c.args.h c.args.w c.loop-i.i _ c.requires.0 c.requires.1 (c.loop-i.invariant.left c.loop-i.i (omega arith) l) c.shorter.ensures) c.loop-i.invariant
