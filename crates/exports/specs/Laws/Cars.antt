-- What is handed over for a car leaves its slices as they are to be.
use Rattle.std.specs.Prelude.{List, ℕ, ℤ, Result}
use Rattle.refusal.specs.declared.Refusal.{Refusal}
use Rattle.solution.specs.declared.Planned.{Planned}
use Rattle.answers.specs.Answer.{IsHandedOver}
use Rattle.exports.specs.Cars.{IsLeft}

pub left : {r : Result Planned Refusal} {words words' : List ℕ} {u u' : List ℤ} {k : ℤ} → IsHandedOver r words words' u u' k
    → IsLeft r words words' u u'
left h = record { words_are = h.words_are; multipliers_are = h.multipliers_are }
