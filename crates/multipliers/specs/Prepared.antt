-- What is known of a plan once it is prepared.
use Rattle.std.specs.Prelude.{◌≡◌, List, [], ℕ, ◌≤◌, length, ℤ}
use Rattle.postman.specs.Plan.{Plan, WellFormed}
use Rattle.postman.specs.Required.{required, required_cost}
use Rattle.postman.specs.Component.{component_count}
use Rattle.postman.specs.Arborescence.{IsArborescence}
use Rattle.postman.specs.Steps.{Plannable, cell}
use Rattle.residual_search.specs.Step.{State}
use Rattle.balance.specs.Balance.{balance}
use Rattle.drive_legs.specs.Filled.{links_of}
use Rattle.network.specs.declared.network.Network.{Network}
use Rattle.required.specs.StepContracts.{IsImbalance, IsRequiredFlags, IsComponents}
use Rattle.network.specs.Network.{IsNetwork}
use Rattle.lagrangian.specs.Priced.{IsPriced}
use Rattle.multipliers.specs.declared.ascend.Ascent.{Ascent}
use Rattle.multipliers.specs.declared.ascend.Setting.{Setting}
use Rattle.multipliers.specs.Drive.{table_of}
use Rattle.multipliers.specs.Ascent.{amounts_of}

-- The table of the distances of a plan that was read, and its network.
pub record IsMeasured (p : Plan) (table : List (List ℕ)) (net : Network) : Type 0 where
  pub well_formed : WellFormed p
  pub distances : table ≡ table_of p
  pub network : IsNetwork p net

-- The plan is not refused; the table of its distances, and its required vertices.
pub record IsKnown (p : Plan) (table : List (List ℕ)) (vs : List ℕ) : Type 0 where
  pub plannable : Plannable p
  pub few : component_count p ≤ 8
  pub distances : table ≡ table_of p
  pub vertices : vs ≡ required p

-- With the state of its required arcs.
pub record IsBase (p : Plan) (table : List (List ℕ)) (vs : List ℕ) (base : State) : Type 0 where
  pub known : IsKnown p table vs
  pub base_is : base ≡ balance (cell (table_of p)) p []

-- With the amounts of that state, and what the ascent reads of its network.
pub record IsPrepared (p : Plan) (table : List (List ℕ)) (amounts vs : List ℕ) (s : Setting) : Type 0 where
  pub known : IsKnown p table vs
  pub amounts_are : amounts ≡ amounts_of p
  pub required_long : length s.required ≡ 64
  pub required_flags : IsRequiredFlags p s.required
  pub component_long : length s.component ≡ 64
  pub components : IsComponents p s.component s.components
  pub cost : s.required_cost ≡ required_cost p
  pub imbalance : IsImbalance p s.imbalance

-- The same, of what an ascent reads.
abbrev pub IsReady : Plan → Ascent → Type 0
IsReady p a = IsPrepared p a.table.now a.amounts.now a.vs.vertices.now a.setting

-- What L(u) asks.
abbrev pub IsPricedIn : Plan → List (List ℕ) → Setting → List ℤ → Type 0
IsPricedIn p table s u = IsPriced p table u s.component s.required s.components s.required_cost s.imbalance

-- Tails and heads of the links of an arborescence.
pub record IsTree (p : Plan) (tails heads : List ℕ) : Type 0 where
  pub same : length heads ≡ length tails
  pub tree : IsArborescence p (links_of tails heads)
