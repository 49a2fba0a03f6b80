-- The vertices whose flag is set are the required ones: no vertex from n on is required.
use Rattle.std.specs.Prelude.{◌≡◌, Bool, List, get_or}
use Rattle.std.proofs.Common.{◌∙◌, arith}
use Rattle.std.proofs.Math.Bool.{false}
use Rattle.postman.specs.Lists.{select, below}
use Rattle.postman.specs.Plan.{Plan, WellFormed}
use Rattle.postman.specs.Required.{is_required, required}
use Rattle.postman.specs.Laws.Tests.{same_test}
use Rattle.postman.specs.Laws.Membership.{select_cong, below_mem}
use Rattle.postman_laws.specs.Laws.Required.{required_lt}
use Rattle.postman_laws.specs.Laws.Selection.{select_past}
use Rattle.required.specs.StepContracts.{IsRequiredFlags}
use Rattle.required.specs.Laws.RequiredVertex.{required_of}

module _ (p : Plan) (ok : WellFormed p) where
  pub required_of_64 : select (is_required p) (below 64) ≡ required p
  unfolding required
  required_of_64 =
      select_past (is_required p) p.n 64 ok.vertices
      (λ v l b. same_test (is_required p v) false (λ t. (let m = required_lt p (required_of p ok t) in omega arith)) (λ t. absurd t))

  pub vertices_required : (flags : List Bool) → IsRequiredFlags p flags → select (λ v. get_or flags v false) (below 64) ≡ required p
  vertices_required flags h = select_cong (λ v. get_or flags v false) (is_required p) (below 64) (λ v m. h v (below_mem m)) ∙ required_of_64
