-- The refusals of the deep call: those of the plan call in their order, and 23 after 9, before 10.
use Rattle.std.specs.Prelude.{List, [], ◌∷◌, ◌++◌, ℕ}
use Rattle.std.proofs.Math.Option.{Option}
use Rattle.postman.specs.Refusal.{Conditions, first_refusal}
use Rattle.postman.specs.PlanFile.{is_outside, plan_of}
use Rattle.postman.specs.PlanCall.{conditions_before, is_cut_off}

-- The rounds are 1 to 1,000.
unfoldable pub highest_rounds : ℕ
highest_rounds = 1000

-- 23 rounds: 0 or above 1,000
unfoldable pub round_conditions : ℕ → Conditions
unfolding is_outside highest_rounds
round_conditions rounds = (is_outside rounds 1 highest_rounds, 23) ∷ []

unfoldable pub earlier_conditions_in : List ℕ → ℕ → ℕ → ℕ → Conditions
unfolding conditions_before round_conditions plan_of
earlier_conditions_in bytes budget rounds places = conditions_before bytes budget places (round_conditions rounds) (plan_of bytes)

unfoldable pub deep_refusal : List ℕ → ℕ → ℕ → ℕ → Option ℕ
unfolding first_refusal earlier_conditions_in is_cut_off plan_of
deep_refusal bytes budget rounds places = first_refusal (earlier_conditions_in bytes budget rounds places
    ++ (is_cut_off (plan_of bytes), 12) ∷ [])
