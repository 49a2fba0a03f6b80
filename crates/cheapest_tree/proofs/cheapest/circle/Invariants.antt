-- After so many turns the components that so many entries pass are marked, and x is the next.
use Rattle.std.proofs.Common.{◌≡◌, ◌<◌, length}
use Rattle.postman.specs.Lists.{iterate}
use Rattle.cheapest_tree.specs.CostMatrix.{entry_of, IsMarked}
use Rattle.cheapest_tree.proofs.cheapest.circle.Given as goal

abbrev pub invariant-loop : goal.invariant-loop
invariant-loop l = record {
  in_range : l.x < 8;
  sized : length l.on ≡ 8;
  here : l.x ≡ iterate l.counter (entry_of l.e) l.y;
  marked : IsMarked l.e l.y l.counter l.on;
}
