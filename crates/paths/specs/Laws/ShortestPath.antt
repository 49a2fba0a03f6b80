-- The path of a leg is the path of fewest arcs: a lightest one costs d, has no more arcs than any that costs as
-- much, and none of its weight comes before it.
use Rattle.std.specs.Prelude.{◌≡◌, List, ℕ, ◌-◌, ◌≤◌, ◌<◌, length}
use Rattle.std.proofs.Common.{subst, arith}
use Rattle.postman.specs.Lists.{occurrences}
use Rattle.postman.specs.Plan.{Plan, WellFormed}
use Rattle.postman.specs.Drive.{IsWalk, walk_cost}
use Rattle.postman.specs.Distance.{no_path, distance}
use Rattle.postman.specs.FewestPath.{IsFewestPath}
use Rattle.postman_laws.specs.Laws.Distance.{bounded, distance_le}
use Rattle.shortest.specs.Weight.{weighted}
use Rattle.paths.specs.ShortestPath.{cheapest_path, shortest_path}
use Rattle.shortest.specs.Weight.{entered}
use Rattle.paths.specs.Laws.CheapestPath.{IsCheapestPath, cheapest_path_lem}
use Rattle.shortest.specs.Laws.Weight.{is_weighted, to_weighted, of_weighted, walk_weight, same_entered, weight_path, least_cost}

-- The path from i to j: where there is one, the path of fewest arcs; it costs d(i,j), has at most n − 1 arcs,
-- and enters no vertex twice and not i again.
pub record IsShortestPath (p : Plan) (i j : ℕ) (w : List ℕ) : Type 0 where
  pub fewest_path : IsFewestPath p i j w
  pub costs : walk_cost p.arcs w ≡ distance p i j
  pub short : length w ≤ p.n - 1
  pub once : (x : ℕ) → occurrences x (entered p.arcs w) ≤ 1
  pub leaves : occurrences i (entered p.arcs w) ≡ 0

module _ (p : Plan) (ok : WellFormed p) (i j : ℕ) (l : i < p.n) (w : List ℕ) (h : IsCheapestPath (weighted p) i j w) where
  walk : IsWalk p.arcs i w j
  walk = of_weighted p.arcs i j w h.walk

  costs : walk_cost p.arcs w ≡ distance p i j
  costs = let s = h.short in let v = ok.vertices in least_cost p ok i j w l walk h.costs (omega arith)

  -- a walk of the path's cost
  module _ (v : List ℕ) (q : IsWalk p.arcs i v j) (e : walk_cost p.arcs v ≡ walk_cost p.arcs w) where
    fewest : length w ≤ length v
    fewest =
        let a = distance_le (weighted p) (is_weighted p ok).ends i j v l (to_weighted p.arcs i j v q) in
        let b = walk_weight p.arcs i j v q in
        let c = walk_weight p.arcs i j w walk in
        let d = h.costs in
        omega arith

    same_weight : length v ≡ length w → walk_cost (weighted p).arcs v ≡ distance (weighted p) i j
    same_weight f =
        let b = walk_weight p.arcs i j v q in
        let c = walk_weight p.arcs i j w walk in
        let d = h.costs in
        omega arith

  fewest_path : IsFewestPath p i j w
  fewest_path = record {
    walk = walk;
    cheapest = λ v q. (let a = distance_le p (bounded ok).ends i j v l q in let c = costs in omega arith);
    fewest = fewest;
    lowest = λ v q e f. h.lowest v (to_weighted p.arcs i j v q) (same_weight v q e f);
  }

  is_shortest : IsShortestPath p i j w
  is_shortest =
      let e = same_entered p.arcs i j w walk in
      record {
        fewest_path = fewest_path;
        costs = costs;
        short = h.short;
        once = λ x. subst (λ vs. occurrences x vs ≤ 1) e (h.once x);
        leaves = subst (λ vs. occurrences i vs ≡ 0) e h.leaves;
      }

pub shortest_path_lem : (p : Plan) → WellFormed p → (i j : ℕ) → i < p.n → distance p i j < no_path
    → IsShortestPath p i j (shortest_path p i j)
unfolding shortest_path
shortest_path_lem p ok i j l h =
    is_shortest p ok i j l (cheapest_path (weighted p) i j) (cheapest_path_lem (weighted p) (is_weighted p ok) i j l
    (weight_path p ok i j l h))
