-- The drive: the legs in the order of their circuit, each required arc as its number, each other leg as a path.
use Rattle.std.specs.Prelude.{◌≡◌, cond, ℕ, ◌+◌, ◌≤◌, ◌<◌, length, get_or, drop, ltb}
use mathlib.Core.List.{List, [], ◌∷◌, ◌++◌, flat_map, Memᴰ}
use Rattle.postman.specs.Plan.{Plan, required_numbers}
use Rattle.postman.specs.Drive.{walk_cost, IsDrive, drive_cost}
use Rattle.postman.specs.Required.{required, required_cost}
use Rattle.postman.specs.Distance.{no_path, distance}
use Rattle.postman.specs.FewestPath.{IsFewestPath}
use Rattle.postman.specs.Link.{Link}
use Rattle.postman.specs.Balancing.{link_cost, balancing_cost}
use Rattle.postman.specs.Description.{IsLaid}
use Rattle.postman.specs.PlanCall.{sheet_places}
use Rattle.paths.specs.ShortestPath.{shortest_path}
use Rattle.hierholzer.specs.Circuit.{circuit}
use Rattle.postman.specs.Steps.{amount}
use Rattle.drive_legs.specs.Legs.{leg_tails, leg_heads}

-- The places of leg e: the required arcs come first, in file order.
unfoldable pub leg_places : (ℕ → ℕ → List ℕ) → List ℕ → List ℕ → List ℕ → ℕ → List ℕ
leg_places path numbers tails heads e = cond (ltb e (length numbers)) (get_or numbers e 0 ∷ []) (path (get_or tails e 0) (get_or heads e 0))

unfoldable pub places_of : (ℕ → ℕ → List ℕ) → List ℕ → List ℕ → List ℕ → List ℕ → List ℕ
places_of path numbers tails heads order = flat_map (leg_places path numbers tails heads) order

unfoldable pub drive_by : (ℕ → ℕ → List ℕ) → Plan → List Link → List ℕ → List ℕ
drive_by path p t amounts =
    places_of path (required_numbers p) (leg_tails p t amounts) (leg_heads p t amounts)
    (circuit (leg_tails p t amounts) (leg_heads p t amounts))

-- The drive that is written: its paths are the shortest paths of the plan.
unfoldable pub drive : Plan → List Link → List ℕ → List ℕ
drive p t amounts = drive_by (shortest_path p) p t amounts

-- Paths of fewest arcs between required vertices, of at most 63 arcs.
pub record IsPath (p : Plan) (i j : ℕ) (w : List ℕ) : Type 0 where
  pub fewest_path : IsFewestPath p i j w
  pub costs : walk_cost p.arcs w ≡ distance p i j
  pub short : length w ≤ 63

abbrev pub ArePaths : Plan → (ℕ → ℕ → List ℕ) → Type 0
ArePaths p path = (i j : ℕ) → Memᴰ i (required p) → Memᴰ j (required p) → IsPath p i j (path i j)

-- The places of a lent list with `new` written from its start.
unfoldable pub written : List ℕ → List ℕ → List ℕ
written new old = new ++ drop (length new) old

-- What the path of a leg asks of its ends.
pub record Reaches (p : Plan) (i j : ℕ) : Type 0 where
  pub from : i < p.n
  pub to : j < p.n
  pub linked : distance p i j < no_path

-- The legs that are no required arcs have paths.
abbrev pub HavePaths : Plan → List ℕ → List ℕ → List ℕ → Type 0
HavePaths p numbers tails heads = (e : ℕ) → length numbers ≤ e → e < length tails → Reaches p (get_or tails e 0) (get_or heads e 0)

-- What a drive that completes an arborescence is.
pub record IsCompletion (p : Plan) (t : List Link) (amounts w : List ℕ) : Type 0 where
  pub drive : IsDrive p w
  pub costs : drive_cost p w ≡ required_cost p + link_cost p t + balancing_cost (required p) (distance p) (amount amounts)
  pub nonempty : 0 < length w
  pub first : get_or w 0 0 ≡ get_or (required_numbers p) 0 0
  pub short : length w ≤ sheet_places
  pub laid : IsLaid p t (amount amounts) w
