-- A network in arrays: distances, multipliers, the component of each required vertex, and which vertices are required.
use Rattle.std.specs.Prelude.{◌≡◌, ◌⊎◌, Bool, true, false, cond, ◌&&◌, ℕ, ◌+◌, ◌*◌, ◌/◌, ◌%◌, ◌<◌, get_or, ℤ, pos, ◌+ℤ◌, ◌-ℤ◌, ◌≤ℤ◌}
use mathlib.Core.List.{List, [], Memᴰ}
use Rattle.integers.specs.Linear.{Within}
use Rattle.postman.specs.Plan.{Plan}
use Rattle.postman.specs.Required.{required}
use Rattle.postman.specs.Distance.{distance}
use Rattle.postman.specs.Component.{component, component_count}
use Rattle.postman.specs.LagrangianBound.{Multipliers}
use Rattle.cheapest_tree.specs.CostMatrix.{highest}

-- the reduced cost of a pair
abbrev pub cost_of : List (List ℕ) → List ℤ → ℕ → ℕ → ℤ
cost_of d u i j = pos (get_or (get_or d i []) j 0) -ℤ get_or u i (pos 0) +ℤ get_or u j (pos 0)

-- what a pair of vertices offers, and to which entry of the matrix: nothing where one of them is not required
abbrev pub are_required : List Bool → ℕ → ℕ → Bool
are_required r i j = get_or r i false && get_or r j false

abbrev pub offer_of : List (List ℕ) → List ℤ → List Bool → ℕ → ℕ → ℤ
offer_of d u r i j = cond (are_required r i j) (cost_of d u i j) (pos highest)

abbrev pub entry_for : List ℕ → List Bool → ℕ → ℕ → ℕ
entry_for c r i j = cond (are_required r i j) (get_or c i 0 * 8 + get_or c j 0) 0

-- components below 8, and reduced costs that are neither negative nor too large
pub record ArePairCosts (d : List (List ℕ)) (u : List ℤ) (c : List ℕ) (r : List Bool) : Type 0 where
  pub in_range : (v : ℕ) → v < 64 → get_or r v false ≡ true → get_or c v 0 < 8
  pub small : (v : ℕ) → v < 64 → Within 1099511627776 (get_or u v (pos 0))
  pub low : (i j : ℕ) → i < 64 → j < 64 → get_or r i false ≡ true → get_or r j false ≡ true → pos 0 ≤ℤ cost_of d u i j
  pub high : (i j : ℕ) → i < 64 → j < 64 → get_or r i false ≡ true → get_or r j false ≡ true → cost_of d u i j ≤ℤ pos highest

-- r is the lesser of a and b
pub record IsLesser (a b r : ℤ) : Type 0 where
  pub first : r ≤ℤ a
  pub second : r ≤ℤ b
  pub one : (r ≡ a) ⊎ (r ≡ b)

-- m holds the least offers of the first n pairs, in the order of (i, j)
pub record AreLeastOffers (d : List (List ℕ)) (u : List ℤ) (c : List ℕ) (r : List Bool) (n : ℕ) (m : List ℤ) : Type 0 where
  pub low : (x : ℕ) → x < 64 → pos 0 ≤ℤ get_or m x (pos 0)
  pub high : (x : ℕ) → x < 64 → get_or m x (pos 0) ≤ℤ pos highest
  pub least : (l : ℕ) → l < n → are_required r (l / 64) (l % 64) ≡ true
      → get_or m (entry_for c r (l / 64) (l % 64)) (pos 0) ≤ℤ cost_of d u (l / 64) (l % 64)
  pub attained : (x : ℕ) → x < 64
      → (get_or m x (pos 0) ≡ pos highest)
      ⊎ ((l : ℕ) × (l < n) × (are_required r (l / 64) (l % 64) ≡ true) × (x ≡ entry_for c r (l / 64) (l % 64))
      × (get_or m x (pos 0) ≡ cost_of d u (l / 64) (l % 64)))

-- the arrays hold what the plan has
pub record HoldsNetwork (p : Plan) (d : List (List ℕ)) (c : List ℕ) (r : List Bool) (k : ℕ) : Type 0 where
  pub components : k ≡ component_count p
  pub distances : (i j : ℕ) → Memᴰ i (required p) → Memᴰ j (required p) → get_or (get_or d i []) j 0 ≡ distance p i j
  pub component_of : (i : ℕ) → Memᴰ i (required p) → get_or c i 0 ≡ component p i
  pub is_required_holds : (i : ℕ) → get_or r i false ≡ true → Memᴰ i (required p)
  pub required_is : (i : ℕ) → Memᴰ i (required p) → get_or r i false ≡ true

abbrev pub multipliers_in : List ℤ → Multipliers
multipliers_in u i = get_or u i (pos 0)
