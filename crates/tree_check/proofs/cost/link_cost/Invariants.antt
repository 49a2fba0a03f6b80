-- The invariant: the cost of the links before the next one's.
use Rattle.std.proofs.Common.{◌≡◌, length, take}
use Rattle.drive_legs.specs.Filled.{links_of}
use Rattle.tree_check.specs.Cost.{table_cost}
use Rattle.tree_check.proofs.cost.link_cost.Given as goal

abbrev pub invariant-loop-tail : goal.invariant-loop-tail
invariant-loop-tail l = l.cost ≡ table_cost l.d (links_of (take (length l.yielded) l.tails) (take (length l.yielded) l.heads))
