-- The invariant: the places of the components below q are listed, and the starts up to q are theirs.
use Rattle.std.proofs.Common.{◌≡◌, ◌≤◌, length}
use Rattle.candidates.specs.Holds.{Holds}
use Rattle.candidates.specs.Places.{places_before}
use Rattle.candidates.specs.Laws.Places.{StartsTo}
use Rattle.candidates.proofs.group.Given as goal

abbrev pub invariant-loop-q : goal.invariant-loop-q
invariant-loop-q l = record {
  within : l.q ≤ l.k;
  sized : length l.start ≡ 9;
  starts : StartsTo l.links l.component l.q l.start;
  listed : Holds 4096 l.places.list l.places.count (places_before l.links l.component l.q);
}
