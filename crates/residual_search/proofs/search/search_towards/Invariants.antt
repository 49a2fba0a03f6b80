-- What is left of the rounds, from what the loop holds, is the search, and w is the nearest vertex. Assumes nothing.
use Rattle.std.proofs.Common.{◌≡◌, ◌<◌, ◌≤◌, ◌-◌}
use Rattle.residual_search.specs.Bounds.{AtMost}
use Rattle.residual_search.specs.Found.{found_of}
use Rattle.residual_search.specs.Search.{beyond, nearest}
use Rattle.residual_search.specs.Lengths.{length_in}
use Rattle.residual_search.specs.Until.{rounds_until, until}
use Rattle.residual_search.proofs.search.search_towards.Given as goal

abbrev pub invariant-loop-k : goal.invariant-loop-k
invariant-loop-k l =
    let ℓ = length_in l.lengths in
    record {
      from_one : 1 ≤ l.k;
      to_64 : l.k ≤ 64;
      low : AtMost beyond l.found.distance;
      is_nearest : l.w ≡ nearest l.vs.vertices.now l.goal l.found.distance l.found.rank;
      in_range : l.w < 64;
      left : rounds_until ℓ l.vs.vertices.now l.t l.goal (l.most - l.k) l.k (found_of l.found) ≡ until ℓ l.vs.vertices.now l.t l.goal l.most;
    }

abbrev pub decreases-loop-k : goal.decreases-loop-k
decreases-loop-k l = l.most - l.k
