-- The invariant: n is the number of ways of cost a by the vertices before the next pair's.
use Rattle.std.proofs.Common.{◌≡◌, ◌≤◌, length}
use Rattle.network.specs.Laws.Ways.{ways_by}
use Rattle.network.proofs.thinning.ways.Given as goal

abbrev pub invariant-loop-b : goal.invariant-loop-b
invariant-loop-b l =
    let k = length l.yielded in
    (l.n ≤ k) × (l.n ≡ ways_by l.row l.columns l.j l.a k)
