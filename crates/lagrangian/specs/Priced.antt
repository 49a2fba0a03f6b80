-- What is known of a plan, its D and multipliers when L(u) is computed.
use Rattle.std.specs.Prelude.{◌≡◌, Bool, ℕ, ◌≤◌, length, ℤ, pos}
use mathlib.Core.List.{List, Memᴰ}
use Rattle.postman.specs.Plan.{Plan}
use Rattle.postman.specs.Required.{required, required_cost}
use Rattle.postman.specs.Steps.{Plannable, Feasible}
use Rattle.shortest.specs.StepContracts.{IsTable}
use Rattle.required.specs.StepContracts.{IsImbalance, IsRequiredFlags, IsComponents}
use Rattle.pair_costs.specs.PairCosts.{multipliers_in}

pub record IsPriced (p : Plan) (table : List (List ℕ)) (u : List ℤ) (component : List ℕ) (flags : List Bool) (k r : ℕ)
    (d : List ℤ) : Type 0 where
  pub plannable : Plannable p
  pub few : k ≤ 8
  pub some : 1 ≤ k
  pub distances : IsTable p table
  pub long : length flags ≡ 64
  pub required_flags : IsRequiredFlags p flags
  pub components : IsComponents p component k
  pub cost : r ≡ required_cost p
  pub imbalance : IsImbalance p d
  pub feasible : Feasible p (multipliers_in u)
  pub elsewhere : (i : ℕ) → (Memᴰ i (required p) → ⊥) → multipliers_in u i ≡ pos 0
  pub root : ℕ
  pub root_required : Memᴰ root (required p)
  pub at_root : multipliers_in u root ≡ pos 0
