-- The drive's description: "Legs for links and balancing legs then follow such paths, and the drive's description says so." The drive is
-- laid from a tree, and from amounts that balance it; this says which legs it has, and which way each takes. No leg has to be found out
-- from the places: the description gives them.
use Rattle.std.specs.Prelude.{◌≡◌, ℕ, ◌≤◌, length}
use mathlib.Core.List.{List, [], ◌∷◌, flat_map, Memᴰ}
use Rattle.postman.specs.Lists.{select, occurrences}
use Rattle.postman.specs.Plan.{Plan, required_numbers}
use Rattle.postman.specs.Required.{required}
use Rattle.postman.specs.FewestPath.{IsFewestPath, visited}
use Rattle.postman.specs.Link.{Link, joins}

-- A leg of a drive: a must arc, by its number; or a list of arcs from vertex i to vertex j, for a link or for one unit of balancing.
pub data Leg : Type 0 where
  must_arc : ℕ → Leg
  for_link : ℕ → ℕ → List ℕ → Leg
  for_unit : ℕ → ℕ → List ℕ → Leg

-- The places of a leg.
unfoldable pub places_of_leg : Leg → List ℕ
places_of_leg (must_arc k) = k ∷ []
places_of_leg (for_link i j w) = w
places_of_leg (for_unit i j w) = w

-- The must arc that it is, the link that it is for, and the pair of vertices between which it balances: one or none.
unfoldable pub must_arc_of : Leg → List ℕ
must_arc_of (must_arc k) = k ∷ []
must_arc_of (for_link i j w) = []
must_arc_of (for_unit i j w) = []

unfoldable pub link_of : Leg → List Link
link_of (must_arc k) = []
link_of (for_link i j w) = record { tail = i; head = j } ∷ []
link_of (for_unit i j w) = []

unfoldable pub unit_of : Leg → List Link
unit_of (must_arc k) = []
unit_of (for_link i j w) = []
unit_of (for_unit i j w) = record { tail = i; head = j } ∷ []

-- How often the pair (i, j) is in a list.
unfoldable pub how_often : ℕ → ℕ → List Link → ℕ
unfolding select
how_often i j ls = length (select (joins i j) ls)

-- What a leg that is no must arc follows, from i to j: both are required, it is the path of fewest arcs
-- between them, and it visits no vertex twice.
pub record IsLegPath (p : Plan) (i j : ℕ) (w : List ℕ) : Type 0 where
  pub from : Memᴰ i (required p)
  pub to : Memᴰ j (required p)
  pub fewest_path : IsFewestPath p i j w
  pub once : (v : ℕ) → occurrences v (visited p.arcs i w) ≤ 1

-- The places w are those of legs, one after the other: each must arc once, one leg for each link of t, and f(i,j) legs from i to j.
pub record IsLaid (p : Plan) (t : List Link) (f : ℕ → ℕ → ℕ) (w : List ℕ) : Type 0 where
  pub legs : List Leg
  pub places : flat_map places_of_leg legs ≡ w
  pub must_arcs : (k : ℕ) → occurrences k (flat_map must_arc_of legs) ≡ occurrences k (required_numbers p)
  pub links : (i j : ℕ) → how_often i j (flat_map link_of legs) ≡ how_often i j t
  pub units : (i j : ℕ) → Memᴰ i (required p) → Memᴰ j (required p) → how_often i j (flat_map unit_of legs) ≡ f i j
  pub link_paths : (i j : ℕ) (v : List ℕ) → Memᴰ (for_link i j v) legs → IsLegPath p i j v
  pub unit_paths : (i j : ℕ) (v : List ℕ) → Memᴰ (for_unit i j v) legs → IsLegPath p i j v
