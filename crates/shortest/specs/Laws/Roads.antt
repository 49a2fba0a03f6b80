-- Least weights depend on what d depends on: arcs that agree in ends and cost and in which may be driven agree in their weights.
use Rattle.std.specs.Prelude.{◌≡◌, List, [], ◌∷◌, map, ℕ, ◌+◌, ◌*◌}
use Rattle.std.proofs.Common.{ap, ◌∙◌}
use Rattle.postman.specs.Plan.{Arc, Plan}
use Rattle.postman_laws.specs.Laws.Roads.{SameRoads, distance_same}
use Rattle.shortest.specs.Weight.{heavy, weighted}
use Rattle.shortest.specs.StepContracts.{AreWeights}

heavy_roads : (xs ys : List Arc) → SameRoads xs ys → SameRoads (map heavy xs) (map heavy ys)
heavy_roads [] [] h = tt
heavy_roads [] (y ∷ ys) h = absurd h
heavy_roads (x ∷ xs) [] h = absurd h
heavy_roads (x ∷ xs) (y ∷ ys) h =
    let r = h.0 in (
      record {
        tail_same = r.tail_same;
        head_same = r.head_same;
        cost_same = ap (λ c. 64 * c + 1) r.cost_same;
        open_same = r.open_same;
      },
      heavy_roads xs ys h.1,
    )

pub weights_same : (p q : Plan) → p.n ≡ q.n → SameRoads p.arcs q.arcs → (table : List (List ℕ)) → AreWeights p table
    → AreWeights q table
weights_same p q n h table w i j l m = w i j l m ∙ distance_same (weighted p) (weighted q) n (heavy_roads p.arcs q.arcs h) i j
