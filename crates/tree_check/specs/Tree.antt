-- Links in arrays that are a tree's, by what the network holds.
use Rattle.std.specs.Prelude.{◌≡◌, ◌≢◌, Bool, true, false, List, ℕ, ◌+◌, ◌-◌, ◌*◌, ◌%◌, ◌^◌, ◌≤◌, ◌<◌, get_or}
use Rattle.arborescence.specs.Reach.{reaches_all}

-- The pair from t to h is a link into component q from another.
pub record IsEntry (links : List Bool) (component : List ℕ) (t h q : ℕ) : Type 0 where
  pub tail_in : t < 64
  pub head_in : h < 64
  pub is_link_holds : get_or links (t * 64 + h) false ≡ true
  pub head : get_or component h 0 ≡ q
  pub tail : get_or component t 0 ≢ q

-- The set of the component that the link into component q comes from.
abbrev pub source_set : List ℕ → List ℕ → ℕ → ℕ
source_set component tails q = 2 ^ (get_or component (get_or tails (q - 1) 0) 0 % 64)

pub record IsHeldTree (links : List Bool) (component tails heads : List ℕ) (k : ℕ) : Type 0 where
  pub enters : (q : ℕ) → 1 ≤ q → q < k → IsEntry links component (get_or tails (q - 1) 0) (get_or heads (q - 1) 0) q
  pub arrives : reaches_all (source_set component tails) k ≡ true
