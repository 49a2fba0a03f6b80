-- After so many turns r is what so many sweeps reach. A turn that ends the loop has found what k sweeps reach: all components, or a set that stays.
use Rattle.std.proofs.Common.{◌≡◌, ◌-◌, ◌^◌, get_or}
use Rattle.arborescence.specs.Reach.{sweeps}
use Rattle.arborescence.proofs.reach.all_reached.Given as goal

abbrev pub invariant-loop : goal.invariant-loop
invariant-loop l = (l.all ≡ 2 ^ l.k - 1) × (l.r ≡ sweeps (λ q. get_or l.sets q 0) (l.k - 1) l.counter)
