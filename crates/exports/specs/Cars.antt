-- What the call for two cars answers to a caller in another language.
use Rattle.std.specs.Prelude.{◌≡◌, List, ℕ, ℤ, Result}
use Rattle.postman.specs.Refusal.{unless}
use Rattle.refusal.specs.Verdict.{verdict_number}
use Rattle.refusal.specs.declared.Refusal.{Refusal}
use Rattle.solution.specs.Planned.{u_list}
use Rattle.solution.specs.declared.Planned.{Planned}
use Rattle.two_cars.specs.declared.TwoPlanned.{TwoPlanned}
use Rattle.two_cars.specs.Contract.{IsTwoCars}
use Rattle.answers.specs.Answer.{words_of, put_first}
use Rattle.answers.specs.CarsNumber.{cars_number}

-- What a car's lent slices hold then; its refusal changes none.
pub record IsLeft (r : Result Planned Refusal) (words words' : List ℕ) (u u' : List ℤ) : Type 0 where
  pub words_are : words' ≡ unless (verdict_number r) (put_first (words_of r) words) words
  pub multipliers_are : u' ≡ unless (verdict_number r) (put_first (u_list r) u) u

-- What one car lends, at entry and at exit.
pub record Lent : Type 0 where
  pub marks : List ℕ
  pub budget : ℕ
  pub sheet : List ℕ
  pub sheet' : List ℕ
  pub words : List ℕ
  pub words' : List ℕ
  pub u : List ℤ
  pub u' : List ℤ

-- The exported call: it hands over what the call for two cars answers.
pub record IsExportedCars (bytes : List ℕ) (a b : Lent) (number : ℤ) : Type 0 where
  pub answer : TwoPlanned
  pub called : IsTwoCars bytes a.marks a.budget a.sheet a.sheet' b.marks b.budget b.sheet b.sheet' answer
  pub first_left : IsLeft answer.first a.words a.words' a.u a.u'
  pub second_left : IsLeft answer.second b.words b.words' b.u b.u'
  pub number_is : number ≡ cars_number (verdict_number answer.first) (verdict_number answer.second)
