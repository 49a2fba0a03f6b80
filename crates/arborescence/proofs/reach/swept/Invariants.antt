-- After the turns for components below j, r is the sweep of components 1 to j − 1.
use Rattle.std.proofs.Common.{◌≡◌, ◌-◌, get_or}
use Rattle.arborescence.specs.Reach.{sweep}
use Rattle.arborescence.proofs.reach.swept.Given as goal

abbrev pub invariant-loop-j : goal.invariant-loop-j
invariant-loop-j l = l.r ≡ sweep (λ q. get_or l.sets q 0) (l.j - 1) l.s
