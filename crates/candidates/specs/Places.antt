-- The candidates of the components by places: the pair (i, j) of vertices has the place 64 i + j, which ascends as (i, j) does. All of it
-- over the arrays that say which pairs are links and which component a vertex is in.
use Rattle.std.specs.Prelude.{◌≡◌, Bool, false, not, ◌&&◌, length, get_or, eqb}
use mathlib.Core.List.{List, [], ◌++◌}
use Prim.Native.Nat.{ℕ, zero, suc, ◌/◌, ◌%◌, ◌≤◌, ◌<◌}
use Rattle.postman.specs.Lists.{select, below}
use Rattle.candidates.specs.Holds.{Holds}

-- a link whose head is in component q and whose tail is in another
abbrev pub enters : Bool → ℕ → ℕ → ℕ → Bool
enters link tail head q = link && (eqb head q && not (eqb tail q))

module _ (links : List Bool) (component : List ℕ) where
  abbrev pub is_candidate : ℕ → ℕ → Bool
  is_candidate q x = enters (get_or links x false) (get_or component (x / 64) 0) (get_or component (x % 64) 0) q

  -- the places of component q's candidates, ascending
  unfoldable pub places_of : ℕ → List ℕ
  unfolding select below
  places_of q = select (is_candidate q) (below 4096)

  -- those of the components from 1 to q − 1, one component after the other; component 0 has no candidates
  unfoldable pub places_before : ℕ → List ℕ
  unfolding places_of
  places_before zero = []
  places_before (suc zero) = []
  places_before (suc (suc q)) = places_before (suc q) ++ places_of (suc q)

  -- start(q) is where the places of component q begin in `list`
  pub record AreGrouped (k : ℕ) (start list : List ℕ) : Type 0 where
    pub starts : (q : ℕ) → q ≤ k → get_or start q 0 ≡ length (places_before q)
    pub places : Holds 4096 list (length (places_before k)) (places_before k)

  -- and what stands there of each candidate: its ends, and the component of its tail
  pub record HaveEnds (k : ℕ) (start sources tails heads : List ℕ) : Type 0 where
    pub starts : (q : ℕ) → q ≤ k → get_or start q 0 ≡ length (places_before q)
    pub tail : (m : ℕ) → m < length (places_before k) → get_or tails m 0 ≡ get_or (places_before k) m 0 / 64
    pub head : (m : ℕ) → m < length (places_before k) → get_or heads m 0 ≡ get_or (places_before k) m 0 % 64
    pub source : (m : ℕ) → m < length (places_before k) → get_or sources m 0 ≡ get_or component (get_or (places_before k) m 0 / 64) 0

-- the entries below n of the arrays are the ends of the pairs in `list`, and the components of their tails
pub record AreEnds (component list : List ℕ) (n : ℕ) (sources tails heads : List ℕ) : Type 0 where
  pub tail : (m : ℕ) → m < n → get_or tails m 0 ≡ get_or list m 0 / 64 % 64
  pub head : (m : ℕ) → m < n → get_or heads m 0 ≡ get_or list m 0 % 64
  pub source : (m : ℕ) → m < n → get_or sources m 0 ≡ get_or component (get_or list m 0 / 64 % 64) 0
