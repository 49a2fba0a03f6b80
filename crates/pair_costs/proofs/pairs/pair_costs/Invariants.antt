-- After the turns for pairs below l, m holds their least offers.
use Rattle.std.proofs.Common.{◌≡◌, length}
use Rattle.pair_costs.specs.PairCosts.{AreLeastOffers}
use Rattle.pair_costs.proofs.pairs.pair_costs.Given as goal

abbrev pub invariant-loop-l : goal.invariant-loop-l
invariant-loop-l l = record { sized : length l.m ≡ 64; offers : AreLeastOffers l.d l.u l.component l.required l.l l.m }
