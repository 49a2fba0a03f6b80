-- After so many turns y is where so many entries lead.
use Rattle.std.proofs.Common.{◌≡◌, ◌<◌}
use Rattle.postman.specs.Lists.{iterate}
use Rattle.cheapest_tree.specs.CostMatrix.{entry_of}
use Rattle.cheapest_tree.proofs.cheapest.back.Given as goal

abbrev pub invariant-loop : goal.invariant-loop
invariant-loop l = (l.y < 8) × (l.y ≡ iterate l.counter (entry_of l.e) l.x)
