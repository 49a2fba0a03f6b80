-- The loop's state after each turn is the fold over the vertices so far. Assumes nothing.
use Rattle.std.proofs.Common.{◌≡◌, ◌+◌, get_or, set, take, replicate}
use Rattle.std.specs.Prelude.{pos, ◌-ℤ◌}
use Rattle.residual_search.specs.Fold.{fold}
use Rattle.balance.proofs.multipliers.true_costs.Given as goal

abbrev pub invariant-loop-v : goal.invariant-loop-v
invariant-loop-v l =
    l.r ≡ fold (λ s v. set s v (pos (get_or l.x v 0 + get_or l.u v 0) -ℤ pos (get_or l.u l.root 0))) (replicate 64 (pos 0)) (take l.v-index l.vs.vertices.now)
