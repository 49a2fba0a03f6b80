-- Words of the contracts of steps, which one crate does for another. No statement that a user relies on names them.
use Rattle.std.specs.Prelude.{◌≡◌, not, ℕ, ◌+◌, ◌*◌, ◌/◌, ◌%◌, ◌≤◌, ◌<◌, length, get_or, T, pos, ◌≤ℤ◌}
use mathlib.Core.List.{List, [], ◌∷◌, Memᴰ}
use Rattle.postman.specs.Plan.{Plan, WellFormed, arc_at, is_required_arc, required_arcs}
use Rattle.postman.specs.Required.{required}
use Rattle.postman.specs.Link.{Link}
use Rattle.postman.specs.LagrangianBound.{Multipliers, reduced_cost}
use Rattle.postman.specs.PlanCall.{is_cut_off}
use Rattle.postman.specs.DistanceCall.{first, second}

-- ---- lists

-- `Pick x xs ys`: x is an element of xs, and ys is xs without it.
pub data Pick {ℓ} {A : Type ℓ} (x : A) : List A → List A → Type ℓ where
  here : {y : A} {xs : List A} → x ≡ y → Pick x (y ∷ xs) xs
  there : {y : A} {xs ys : List A} → Pick x xs ys → Pick x (y ∷ xs) (y ∷ ys)

-- `Permutation xs ys`: xs holds the elements of ys in some order.
pub data Permutation {A : Type 0} : List A → List A → Type 0 where
  none : Permutation [] []
  more : {x : A} {xs ys zs : List A} → Pick x ys zs → Permutation xs zs → Permutation (x ∷ xs) ys

-- ---- tables

-- Row i, column j of a table; and the amount of the pair (i, j) among those of all pairs of 64 vertices.
abbrev pub cell : List (List ℕ) → ℕ → ℕ → ℕ
cell d i j = get_or (get_or d i []) j 0

abbrev pub amount : List ℕ → ℕ → ℕ → ℕ
amount f i j = get_or f (i * 64 + j) 0

-- The pair of vertices in place x of 4096, which ascends as (tail, head) does.
abbrev pub pair_at : ℕ → Link
pair_at x = record { tail = x / 64; head = x % 64 }

-- What is read beyond the end of a list of links.
abbrev pub no_link : Link
no_link = record { tail = 0; head = 0 }

-- ---- plans

-- A plan that the call does not refuse, as far as bounds go.
pub record Plannable (p : Plan) : Type 0 where
  pub well_formed : WellFormed p
  pub some_arc : 0 < length (required_arcs p)
  pub connected : T (not (is_cut_off p))

-- Arc number k is there, and is required.
pub record IsRequiredNumber (p : Plan) (k : ℕ) : Type 0 where
  pub number : k < length p.arcs
  pub must : T (is_required_arc (arc_at p.arcs k))

-- The links of t join required vertices.
abbrev pub Joins : Plan → List Link → Type 0
Joins p t = (l : Link) → Memᴰ l t → Memᴰ l.tail (required p) × Memᴰ l.head (required p)

-- No pair of required vertices has a negative reduced cost.
abbrev pub Feasible : Plan → Multipliers → Type 0
Feasible p u = (i j : ℕ) → Memᴰ i (required p) → Memᴰ j (required p) → pos 0 ≤ℤ reduced_cost p u i j

-- ---- pages

-- At most 256 pairs, each of two vertices.
pub record ArePairs (n : ℕ) (pairs : List ℕ) : Type 0 where
  pub few : length pairs ≤ 256
  pub inside : (k : ℕ) → k < length pairs → (first (get_or pairs k 0) < n) × (second (get_or pairs k 0) < n)
