-- The invariant: i exchanges are made.
use Rattle.renumbering.specs.Laws.Shuffle.{none_shuffled, one_shuffled}
use native.Mathlib.Omega.{arith}
use Rattle.renumbering.proofs.shuffle.shuffle.Goals as goal

pub loop-i-init : goal.loop-i-init
loop-i-init c = (omega arith, none_shuffled _ _ c.requires.0 c.requires.3)

pub loop-i-preserved : goal.loop-i-preserved
loop-i-preserved c = let l = c.loop-i in (omega arith, one_shuffled _ _ c.requires.1 c.requires.2 l.i l.d _ l.invariant.1 c.draw-d.ensures)
