-- The invariant: i exchanges are made.
use Prim.Native.Nat.{◌-◌, ◌≤◌}
use Rattle.renumbering.specs.Laws.Shuffle.{IsShuffled}
use Rattle.renumbering.proofs.shuffle.shuffle.Given as goal

abbrev pub invariant-loop-i : goal.invariant-loop-i
invariant-loop-i l = (l.i ≤ l.times) × IsShuffled l.n l.initial.d l.i l.d

abbrev pub decreases-loop-i : goal.decreases-loop-i
decreases-loop-i l = l.times - l.i
