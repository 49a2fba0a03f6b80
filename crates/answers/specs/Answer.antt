-- An answer, handed over to a caller in another language.
use Rattle.std.specs.Prelude.{◌≡◌, cond, List, [], ◌∷◌, ℕ, ℤ, nat_abs, length, Result}
use Rattle.std.proofs.Math.Seq.{paste}
use Rattle.postman.specs.Refusal.{answer, unless}
use Rattle.record_writer.specs.Writing.{at_most}
use Rattle.refusal.specs.declared.Refusal.{Refusal}
use Rattle.solution.specs.Planned.{summary_of, places_of, u_list}
use Rattle.solution.specs.declared.Planned.{Planned}
use Rattle.refusal.specs.Verdict.{verdict_number}
use Rattle.answers.specs.Number.{one_number}

-- The words of an answer: places, cost, floor (which is at least 0), trees, whole as 0 or 1, parts.
abbrev pub words_of : Result Planned Refusal → List ℕ
words_of r =
    places_of r ∷ (summary_of r).cost ∷ nat_abs (summary_of r).floor ∷ (summary_of r).trees ∷ cond (summary_of r).whole 1 0
    ∷ (summary_of r).parts ∷ []

-- As many elements as there is room for, from the start of what is lent; the rest is untouched.
abbrev pub put_first : {A : Type 0} → List A → List A → List A
put_first new old = paste old 0 new (at_most (length old) (length new))

-- The plan call's answer r in a number and two lent slices, which a refusal does not change.
pub record IsHandedOver (r : Result Planned Refusal) (words words' : List ℕ) (u u' : List ℤ) (number : ℤ) : Type 0 where
  pub number_is : number ≡ one_number (answer (verdict_number r) 0)
  pub words_are : words' ≡ unless (verdict_number r) (put_first (words_of r) words) words
  pub multipliers_are : u' ≡ unless (verdict_number r) (put_first (u_list r) u) u
