-- The loop's state after each turn is the fold over the vertices so far. Assumes nothing.
use Rattle.std.proofs.Common.{◌≡◌, ◌+◌, min, get_or, set, take}
use Rattle.residual_search.specs.Fold.{fold}
use Rattle.balance.proofs.augment.raise_by.Given as goal

abbrev pub invariant-loop-v : goal.invariant-loop-v
invariant-loop-v l = l.raised ≡ fold (λ s v. set s v (get_or l.u v 0 + min (get_or l.x v 0) l.most)) l.u (take l.v-index l.vs.vertices.now)
