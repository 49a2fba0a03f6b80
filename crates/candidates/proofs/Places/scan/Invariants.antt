-- The invariant: behind what was there the list holds the places below x of candidates.
use Rattle.std.proofs.Common.{◌++◌, take}
use Rattle.postman.specs.Lists.{select, below}
use Rattle.candidates.specs.Holds.{Holds}
use Rattle.candidates.specs.Places.{is_candidate}
use Rattle.candidates.proofs.Places.scan.Given as goal

abbrev pub invariant-loop-x : goal.invariant-loop-x
invariant-loop-x l =
    let s = l.initial.self in
    Holds 4096 l.self.list l.self.count (take s.count s.list ++ select (is_candidate l.links l.component l.q) (below l.x))
