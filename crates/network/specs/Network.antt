-- The network of a plan.
use Rattle.std.specs.Prelude.{◌≡◌}
use Rattle.postman.specs.Plan.{Plan}
use Rattle.postman.specs.Required.{required_cost}
use Rattle.postman.specs.PlanCall.{is_cut_off}
use Rattle.network.specs.declared.network.Network.{Network}
use Rattle.required.specs.StepContracts.{IsComponents, IsImbalance, IsLinks, IsRequiredFlags}

-- The network of a plan.
pub record IsNetwork (p : Plan) (r : Network) : Type 0 where
  pub required : IsRequiredFlags p r.required
  pub components : IsComponents p r.component r.components
  pub links : IsLinks p r.links
  pub imbalance : IsImbalance p r.imbalance
  pub required_cost_holds : r.required_cost ≡ required_cost p
  pub cut_off : r.cut_off ≡ is_cut_off p
