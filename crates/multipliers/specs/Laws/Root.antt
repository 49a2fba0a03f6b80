-- The root of the multipliers is the first required vertex, and the required vertices are those that are flagged.
use Rattle.std.specs.Prelude.{◌≡◌, ℕ, ◌<◌, length}
use Rattle.std.proofs.Math.Path.{ap, subst⁻¹}
use mathlib.Core.List.{List, [], Memᴰ}
use Rattle.std.proofs.Common.{arith}
use Rattle.std.proofs.Math.ListN.{get_or}
use Rattle.postman.specs.Plan.{Plan}
use Rattle.postman.specs.PlanCall.{root}
use Rattle.postman.specs.Laws.Membership.{get_d_mem}
use Rattle.postman.specs.Steps.{cell}
use Rattle.residual_search.specs.Step.{State}
use Rattle.balance.specs.Invariant.{Certified}
use Rattle.balance.specs.Multipliers.{multipliers}
use Rattle.multipliers.specs.Prepared.{IsBase}
use Rattle.multipliers.specs.Laws.Lay.{state_certified, state_room}
use Rattle.multipliers.specs.Laws.Solve.{some_vertex}

module _ (p : Plan) (table : List (List ℕ)) (vs : List ℕ) (base : State) (b : IsBase p table vs base) where
  pub some_place : 0 < length vs
  some_place = subst⁻¹ (λ (v : List ℕ). 0 < length v) b.known.vertices (some_vertex p b.known.plannable b.known.few)

  pub first_in : Memᴰ (get_or vs 0 0) vs
  first_in = get_d_mem vs 0 0 some_place

  first_is : get_or vs 0 0 ≡ root p
  unfolding root
  first_is = ap (λ (v : List ℕ). get_or v 0 0) b.known.vertices

  pub from_root_lem : multipliers (cell table) vs base (get_or vs 0 0) ≡ multipliers (cell table) vs base (root p)
  from_root_lem = ap (multipliers (cell table) vs base) first_is

  pub base_certified : Certified (cell table) vs base
  base_certified = state_certified p table vs b.known [] (λ l m. elim m [ ]) (omega arith) base b.base_is

  pub base_room : base.count < 1000
  base_room = let a = state_room p table vs b.known [] (λ l m. elim m [ ]) (omega arith) base b.base_is in omega arith
