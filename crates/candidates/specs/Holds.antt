-- An array whose first entries are a list.
use Rattle.std.specs.Prelude.{◌≡◌, List, ℕ, ◌≤◌, length, take}

-- the first `count` entries of an array of n are xs
pub record Holds (n : ℕ) (array : List ℕ) (count : ℕ) (xs : List ℕ) : Type 0 where
  pub size : length array ≡ n
  pub fits : count ≤ n
  pub content : take count array ≡ xs
