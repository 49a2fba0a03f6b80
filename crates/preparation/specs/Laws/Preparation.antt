-- A preparation: the vertices that are flagged are the required ones, which are a part of their array; its components are one to eight.
use Rattle.std.specs.Prelude.{◌≡◌, Bool, false, List, ℕ, ◌≤◌, length, get_or, take}
use Rattle.std.proofs.Common.{◌∙◌, arith, length-take}
use Rattle.postman.specs.Lists.{select, below}
use Rattle.postman.specs.Plan.{Plan}
use Rattle.postman.specs.Required.{required}
use Rattle.required.specs.StepContracts.{IsRequiredFlags}
use Rattle.network.specs.Laws.Vertices.{vertices_required}
use Rattle.candidates.specs.Holds.{Holds}
use Rattle.multipliers.specs.Prepared.{IsKnown}
use Rattle.multipliers.specs.Laws.Solve.{some_component}
use Rattle.preparation.specs.declared.prepare.Preparation.{Preparation}
use Rattle.preparation.specs.Preparation.{vertices_in, IsPreparation}

-- ---- the vertices that are flagged

module _ (p : Plan) (table : List (List ℕ)) (k : IsKnown p table (required p)) (flags : List Bool) (f : IsRequiredFlags p flags)
    {list : List ℕ} {count : ℕ} (v : Holds 64 list count (select (λ v. get_or flags v false) (below 64))) where
  pub required_held : Holds 64 list count (required p)
  required_held = record {
    size = v.size;
    fits = v.fits;
    content = v.content ∙ vertices_required p k.plannable.well_formed flags f;
  }

  -- the plan is known over the list that holds them
  pub known_over : IsKnown p table (take count list)
  known_over = record { plannable = k.plannable; few = k.few; distances = k.distances; vertices = required_held.content }

-- ---- what is read off

module _ (p : Plan) (table : List (List ℕ)) (r : Preparation) (h : IsPreparation p table r) where
  pub vertices_fit : r.vertices.count ≤ length r.vertices.list
  vertices_fit = let a = h.vertices.size in let b = h.vertices.fits in omega arith

  pub vertices_length : r.vertices.count ≡ length (vertices_in r)
  vertices_length = let a = length-take r.vertices.count r.vertices.list in let b = vertices_fit in omega arith

  pub component_range : (1 ≤ r.network.components) × (r.network.components ≤ 8)
  component_range =
      let k = h.base.known in
      let a = h.network.components.all in
      let b = some_component p k.plannable k.few in
      let f = k.few in
      (omega arith, omega arith)
