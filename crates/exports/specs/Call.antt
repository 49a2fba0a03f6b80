-- What the plan call, also at a departure, and the deep call answer to a caller in another language.
use Rattle.std.specs.Prelude.{List, ℕ, ℤ, Result}
use Rattle.postman.specs.Windows.{Departure}
use Rattle.refusal.specs.declared.Refusal.{Refusal}
use Rattle.solution.specs.declared.Planned.{Planned}
use Rattle.planner.specs.Contract.{IsPlanCall}
use Rattle.windows.specs.Contract.{IsPlanCallAt}
use Rattle.deep_call.specs.Contract.{IsDeepCall}
use Rattle.answers.specs.Answer.{IsHandedOver}

-- The exported call: it hands over an answer that the plan call gives.
pub record IsExportedCall (bytes : List ℕ) (budget : ℕ) (sheet sheet' words words' : List ℕ) (u u' : List ℤ) (number : ℤ) : Type 0 where
  pub answer : Result Planned Refusal
  pub called : IsPlanCall bytes budget sheet sheet' answer
  pub handed_over : IsHandedOver answer words words' u u' number

-- And one that the plan call at a departure gives.
pub record IsExportedCallAt (bytes : List ℕ) (budget : ℕ) (windows : List ℕ) (d : Departure) (sheet sheet' words words' : List ℕ)
    (u u' : List ℤ) (number : ℤ) : Type 0 where
  pub answer : Result Planned Refusal
  pub called : IsPlanCallAt bytes budget windows d sheet sheet' answer
  pub handed_over : IsHandedOver answer words words' u u' number

-- And one that the deep call gives.
pub record IsExportedDeepCall (bytes : List ℕ) (budget rounds : ℕ) (sheet sheet' words words' : List ℕ) (u u' : List ℤ)
    (number : ℤ) : Type 0 where
  pub answer : Result Planned Refusal
  pub called : IsDeepCall bytes budget rounds sheet sheet' answer
  pub handed_over : IsHandedOver answer words words' u u' number
