-- The imbalance of the required arcs, and what it costs at least to even it out.
use Rattle.std.specs.Prelude.{◌≡◌, ℕ, ◌+◌, ◌*◌, ℤ, pos, ◌-ℤ◌}
use mathlib.Core.List.{List, [], ◌∷◌, ◌++◌, map, Memᴰ}
use Rattle.postman.specs.Lists.{sum_of, minimum, occurrences, picks}
use Rattle.postman.specs.Plan.{Plan, required_arcs}
use Rattle.postman.specs.Required.{required_cost}
use Rattle.postman.specs.Distance.{distance}
use Rattle.postman.specs.Link.{Link}

-- The vertices that the required arcs and the links of t enter, and those that they leave: a vertex once for each.
unfoldable pub heads : Plan → List Link → List ℕ
unfolding required_arcs
heads p t = map (λ a. a.head) (required_arcs p) ++ map (λ l. l.head) t

unfoldable pub tails : Plan → List Link → List ℕ
unfolding required_arcs
tails p t = map (λ a. a.tail) (required_arcs p) ++ map (λ l. l.tail) t

-- "D(i) = must arcs into i minus must arcs out of i, signed", the links of t counted as arcs. D itself is the case of no link.
unfoldable pub imbalance : Plan → List Link → ℕ → ℤ
unfolding heads tails occurrences
imbalance p t i = pos (occurrences i (heads p t)) -ℤ pos (occurrences i (tails p t))

-- "Balancing given values D means whole amounts f(i,j) ≥ 0 between required vertices with (sum out of i) − (sum into i) = D(i) for all i",
-- here between the vertices vs. An amount f(i,i) is allowed, and costs nothing.
unfoldable pub sum_over : List ℕ → (ℕ → ℕ) → ℕ
sum_over [] g = 0
sum_over (v ∷ vs) g = g v + sum_over vs g

unfoldable pub IsBalancing : List ℕ → (ℕ → ℤ) → (ℕ → ℕ → ℕ) → Type 0
unfolding sum_over
IsBalancing vs D f = (i : ℕ) → Memᴰ i vs → pos (sum_over vs (λ j. f i j)) -ℤ pos (sum_over vs (λ j. f j i)) ≡ D i

-- "its cost is the sum of f(i,j) × d(i,j)"
unfoldable pub balancing_cost : List ℕ → (ℕ → ℕ → ℕ) → (ℕ → ℕ → ℕ) → ℕ
unfolding sum_over
balancing_cost vs d f = sum_over vs (λ i. sum_over vs (λ j. f i j * d i j))

-- The least cost of sending each vertex of the first list to one of the second, one to one.
unfoldable pub assignment : (ℕ → ℕ → ℕ) → List ℕ → List ℕ → ℕ
unfolding minimum picks
assignment d [] ts = 0
assignment d (s ∷ ss) ts = minimum (map (λ r. d s r.0 + assignment d ss r.1) (picks ts))

-- "Z is the least such cost": each head is sent to a tail, which costs nothing where they are the same vertex. `Laws.Balancing`: it is the
-- least cost of all balancings of the imbalance, between the required vertices. Z is the case of no link.
unfoldable pub least_balancing : Plan → List Link → ℕ
unfolding assignment distance heads tails
least_balancing p t = assignment (distance p) (heads p t) (tails p t)

-- "Cost of a tree: R, plus the d of its links, plus the least balancing once the links are counted in D as arcs."
unfoldable pub link_cost : Plan → List Link → ℕ
unfolding sum_of distance
link_cost p t = sum_of (map (λ l. distance p l.tail l.head) t)

unfoldable pub completion_cost : Plan → List Link → ℕ
unfolding required_cost link_cost least_balancing
completion_cost p t = required_cost p + link_cost p t + least_balancing p t
