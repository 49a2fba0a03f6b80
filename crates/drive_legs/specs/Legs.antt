-- The legs of a drive: each required arc once, each link of an arborescence once, and each unit of the amounts that balance them once.
use Rattle.std.specs.Prelude.{not, ℕ, ◌≤◌, ◌<◌, length, get_or, replicate, T}
use mathlib.Core.List.{List, ◌++◌, map, flat_map, Memᴰ}
use Rattle.postman.specs.Lists.{below}
use Rattle.postman.specs.Plan.{Arc, Plan, required_arcs}
use Rattle.postman.specs.Required.{required}
use Rattle.postman.specs.Link.{Link}
use Rattle.postman.specs.Component.{component_count}
use Rattle.postman.specs.PlanCall.{is_cut_off}
use Rattle.postman.specs.Arborescence.{IsArborescence}
use Rattle.postman.specs.Balancing.{imbalance, IsBalancing}
use Rattle.postman.specs.Steps.{amount, pair_at}

-- The units of the pairs of vertices, by their places.
unfoldable pub units_below : ℕ → List ℕ → List Link
units_below n amounts = flat_map (λ x. replicate (get_or amounts x 0) (pair_at x)) (below n)

unfoldable pub units : List ℕ → List Link
units amounts = units_below 4096 amounts

-- A required arc as a leg.
abbrev pub arc_leg : Arc → Link
arc_leg a = record { tail = a.tail; head = a.head }

unfoldable pub legs : Plan → List Link → List ℕ → List Link
legs p t amounts = map arc_leg (required_arcs p) ++ (t ++ units amounts)

unfoldable pub leg_tails : Plan → List Link → List ℕ → List ℕ
leg_tails p t amounts = map (λ l. l.tail) (legs p t amounts)

unfoldable pub leg_heads : Plan → List Link → List ℕ → List ℕ
leg_heads p t amounts = map (λ l. l.head) (legs p t amounts)

-- What completes the required arcs of a plan that is not refused to a drive: an arborescence, and amounts between required vertices, from
-- surplus to deficit only, that balance it with the required arcs.
pub record Completes (p : Plan) (t : List Link) (amounts : List ℕ) : Type 0 where
  pub some : 0 < length (required_arcs p)
  pub few : component_count p ≤ 8
  pub linked : T (not (is_cut_off p))
  pub arborescence : IsArborescence p t
  pub balances : IsBalancing (required p) (imbalance p t) (amount amounts)
  pub between : (i j : ℕ) → i < 64 → j < 64 → 0 < amount amounts i j → Memᴰ i (required p) × Memᴰ j (required p)
  pub direct : (i j k : ℕ) → i < 64 → j < 64 → k < 64 → 0 < amount amounts i j → 0 < amount amounts j k → ⊥
