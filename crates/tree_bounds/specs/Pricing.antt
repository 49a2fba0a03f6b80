-- Potentials, and what they price at.
use Rattle.std.specs.Prelude.{◌≡◌, ◌⊎◌, List, ℕ, ◌+◌, ◌*◌, ◌≤◌, get_or}
use Rattle.postman.specs.Plan.{Plan}
use Rattle.postman.specs.Required.{required}
use Rattle.postman.specs.Link.{Link}
use Rattle.postman.specs.Balancing.{heads, tails, sum_over}
use Rattle.tree_bounds.specs.declared.pricing.Pricing.{Pricing}
use Rattle.tree_bounds.specs.Bound.{ArePotentials, Low}
use Rattle.tree_bounds.specs.Prepared.{Prepared}

-- Potentials, and what they price the required arcs and the links chosen at, or less, where component a is chosen for next.
pub record Prices (p : Plan) (table : List (List ℕ)) (chosen : List Link) (a : ℕ) (r : Pricing) : Type 0 where
  pub potentials : ArePotentials table (required p) r.potentials
  pub priced : r.value + sum_over (tails p chosen) (λ v. get_or r.potentials v 0)
      ≤ sum_over (heads p chosen) (λ v. get_or r.potentials v 0)
  pub small : r.value + a * 3005697240 ≤ 2963683537920

-- The prices of a branch without its last link, from tail to head; the old ones where they would be negative.
abbrev pub IsLifted : Pricing → Pricing → ℕ → ℕ → Pricing → Type 0
IsLifted old new tail head r =
    (r ≡ old) ⊎ ((r.potentials ≡ new.potentials)
    × (r.value + get_or new.potentials head 0 ≡ new.value + get_or new.potentials tail 0))

-- The same prices, and their bound: what is fixed, their value, and the least of the components from a on.
pub record IsBounded (table : List (List ℕ)) (start tails heads : List ℕ) (k : ℕ) (q : Pricing) (fixed a : ℕ) (r : Pricing) : Type 0 where
  pub potentials_are : r.potentials ≡ q.potentials
  pub value_is : r.value ≡ q.value
  pub rest : ℕ
  pub bound_is : r.bound ≡ fixed + q.value + rest
  pub small : rest ≤ 32000000000
  pub low : (p : Plan) (vs source : List ℕ) → Prepared p table vs start source tails heads k → Low p table q.potentials rest a
