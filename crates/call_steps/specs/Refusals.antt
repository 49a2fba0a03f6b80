-- The refusals of a plan that was read, from each number on.
use Rattle.std.specs.Prelude.{Bool, cond, [], ◌∷◌, ℕ, eqb, ltb}
use Rattle.std.proofs.Math.Option.{Option, some}
use Rattle.postman.specs.Plan.{Plan}
use Rattle.postman.specs.Refusal.{first_refusal}
use Rattle.postman.specs.PlanFile.{is_outside}
use Rattle.postman.specs.PlanCall.{highest_budget, sheet_places, is_cut_off}
use Rattle.postman.specs.Component.{component_count}

-- 10, 11 and 12, from the number of components. (No arc is required exactly when there is no component: `Laws.Idle`.)
unfoldable pub network_refusal : ℕ → Bool → Option ℕ
unfolding first_refusal
network_refusal components off = first_refusal ((eqb components 0, 10) ∷ (ltb 8 components, 11) ∷ (off, 12) ∷ [])

-- From 10, from 9 and from 8 on.
unfoldable pub plan_refusal : Plan → Option ℕ
unfolding network_refusal component_count is_cut_off
plan_refusal p = network_refusal (component_count p) (is_cut_off p)

unfoldable pub budget_refusal : Plan → ℕ → Option ℕ
unfolding plan_refusal is_outside highest_budget
budget_refusal p budget = cond (is_outside budget 1 highest_budget) (some 9) (plan_refusal p)

unfoldable pub sheet_refusal : Plan → ℕ → ℕ → Option ℕ
unfolding budget_refusal sheet_places
sheet_refusal p budget places = cond (ltb places sheet_places) (some 8) (budget_refusal p budget)
