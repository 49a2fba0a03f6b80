-- What a plan that is not refused is prepared with.
use Rattle.std.specs.Prelude.{◌≡◌, List, ℕ, take}
use Rattle.postman.specs.Plan.{Plan}
use Rattle.postman.specs.Required.{required}
use Rattle.balance.specs.Records.{state_of}
use Rattle.candidates.specs.Holds.{Holds}
use Rattle.network.specs.Network.{IsNetwork}
use Rattle.multipliers.specs.Prepared.{IsBase}
use Rattle.multipliers.specs.Ascent.{multipliers_for, bound_of}
use Rattle.preparation.specs.declared.prepare.Preparation.{Preparation}

-- The vertices that stand at the start of its array.
abbrev pub vertices_in : Preparation → List ℕ
vertices_in r = take r.vertices.count r.vertices.list

-- These are the required vertices; the state is that of the required arcs, the network is the plan's, u is the one that is answered, and
-- the bound is L(u).
pub record IsPreparation (p : Plan) (table : List (List ℕ)) (r : Preparation) : Type 0 where
  pub vertices : Holds 64 r.vertices.list r.vertices.count (required p)
  pub base : IsBase p table (vertices_in r) (state_of r.base)
  pub network : IsNetwork p r.network
  pub multipliers_are : r.multipliers ≡ multipliers_for p
  pub bound_is : r.bound ≡ bound_of p r.multipliers
