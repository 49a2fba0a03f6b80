-- What is left of the way, from what the loop holds, is the whole way; the amounts grow by at most one at each turn. Assumes nothing.
use Rattle.std.proofs.Common.{◌≡◌, ◌+◌, ◌-◌, ◌<◌}
use Rattle.residual_search.specs.Bounds.{AtMost}
use Rattle.residual_search.specs.Step.{augment}
use Rattle.balance.specs.Invariant.{limit}
use Rattle.balance.proofs.augment.augment_along.Given as goal

abbrev pub invariant-loop : goal.invariant-loop
invariant-loop l = record {
  in_range : l.v < 64;
  low : AtMost (limit + l.counter) l.g;
  left : augment l.next l.t (64 - l.counter) l.g l.v ≡ augment l.next l.t 64 l.initial.g l.h;
}
