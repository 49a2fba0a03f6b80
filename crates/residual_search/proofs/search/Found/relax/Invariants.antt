-- After so many turns the distances and the next vertices are the fold over the vertices so far, and the nearest is that of them by their last distances. Assumes nothing.
use Rattle.std.proofs.Common.{◌≡◌, ℕ, List, take}
use Rattle.residual_search.specs.Fold.{fold}
use Rattle.residual_search.specs.Search.{relaxed, open_distance, nearer}
use Rattle.residual_search.specs.Lengths.{length_in}
use Rattle.residual_search.proofs.search.Found.relax.Given as goal

abbrev pub nearests : List ℕ → List ℕ → ℕ → List ℕ → ℕ × ℕ
nearests x rank goal us = fold (nearer x rank) (goal, open_distance x rank goal) us

abbrev pub invariant-loop-v : goal.invariant-loop-v
invariant-loop-v l =
    let len : ℕ → ℕ = λ v. length_in l.lengths v l.w in
    let s = l.initial.self in
    let last = fold (relaxed len l.w l.base) (s.distance, s.next) l.vs.vertices.now in
    record {
      relaxes : (l.self.distance, l.self.next) ≡ fold (relaxed len l.w l.base) (s.distance, s.next) (take l.v-index l.vs.vertices.now);
      ranks : l.self.rank ≡ s.rank;
      nears : (l.best, l.low) ≡ nearests last.0 s.rank l.goal (take l.v-index l.vs.vertices.now);
    }
