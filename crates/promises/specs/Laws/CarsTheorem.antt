-- THE TWO CARS DO NOT INTERFERE, for callers in other languages: "Change one car's marks at will: the other's refusal, drive, cost, floor,
-- trees and u must be the same." Over two calls that agree in the plan and in one car's marks, budget and sheet length, that car is left
-- one answer, whatever the other lends; its number is read off the one number for both. And a car whose marks are the plan's own is left
-- what the plan call leaves.
use Rattle.std.specs.Prelude.{◌≡◌, List, true, ℕ, ℤ, length, Result}
use Rattle.std.proofs.Common.{sym, ap, ◌∙◌, subst}
use Rattle.std.proofs.Math.Option.{some}
use Rattle.postman.specs.PlanFile.{plan_of}
use Rattle.postman.specs.PlanCall.{call_refusal}
use Rattle.postman.specs.Marks.{car_plan, own_marks, car_refusal}
use Rattle.refusal.specs.Verdict.{verdict_number}
use Rattle.refusal.specs.declared.Refusal.{Refusal}
use Rattle.solution.specs.declared.Planned.{Planned}
use Rattle.solution.specs.Planned.{IsPlanned}
use Rattle.two_cars.specs.Contract.{IsCar}
use Rattle.two_cars.specs.Laws.Own.{as_plan_call}
use Rattle.answers.specs.Answer.{IsHandedOver}
use Rattle.answers.specs.CarsNumber.{reaches_both}
use Rattle.exports.specs.Cars.{Lent, IsExportedCars}
use Rattle.promises.specs.Slices.{Slices, IsCalled, LeaveOneAnswer}
use Rattle.promises.specs.CarNumber.{first_number, second_number}
use Rattle.promises.specs.Laws.OneAnswer.{one_answer}
use Rattle.promises.specs.Laws.CarNumber.{both_refused, first_read, second_read}

-- What a car lends, at entry and at exit.
abbrev pub lent_by : Lent → Slices
lent_by c = record { sheet = c.sheet; words = c.words; multipliers = c.u }

abbrev pub left_to : Lent → Slices
left_to c = record { sheet = c.sheet'; words = c.words'; multipliers = c.u' }

-- Two cars, in two calls, that lend the same but for what their slices hold.
pub record LendAlike (a b : Lent) : Type 0 where
  pub marks : a.marks ≡ b.marks
  pub budget : a.budget ≡ b.budget
  pub places : length a.sheet ≡ length b.sheet

-- What one car is answered, as a plan call is.
pub record IsCarAnswered (bytes : List ℕ) (c : Lent) (n : ℤ) : Type 0 where
  pub answer : Result Planned Refusal
  pub called : IsCar bytes c.marks c.budget c.sheet c.sheet' answer
  pub handed_over : IsHandedOver answer c.words c.words' c.u c.u' n

module _ (bytes : List ℕ) (a b : Lent) (n : ℤ) (x : IsExportedCars bytes a b n) where
  -- the number tells each car's refusal
  pub first_answered : IsCarAnswered bytes a (first_number n)
  first_answered = record {
    answer = x.answer.first;
    called = x.called.first;
    handed_over = record {
      number_is = ap first_number x.number_is ∙ first_read x.answer.first x.answer.second;
      words_are = x.first_left.words_are;
      multipliers_are = x.first_left.multipliers_are;
    };
  }

  reaches : (k : ℕ) → verdict_number x.answer.first ≡ some k → reaches_both k ≡ true
      → verdict_number x.answer.second ≡ some k
  reaches k e r =
      x.called.second.planned.verdict
      ∙ both_refused bytes a.budget b.budget (length a.sheet) (length b.sheet) a.marks b.marks k
      (sym x.called.first.planned.verdict ∙ e) r

  pub second_answered : IsCarAnswered bytes b (second_number n)
  second_answered = record {
    answer = x.answer.second;
    called = x.called.second;
    handed_over = record {
      number_is = ap second_number x.number_is ∙ second_read x.answer.first x.answer.second reaches;
      words_are = x.second_left.words_are;
      multipliers_are = x.second_left.multipliers_are;
    };
  }

-- One car, in two calls.
one_car : (bytes : List ℕ) (a b : Lent) (n m : ℤ) → LendAlike a b → IsCarAnswered bytes a n → IsCarAnswered bytes b m
    → LeaveOneAnswer (lent_by a) (left_to a) n (lent_by b) (left_to b) m
one_car bytes a b n m s x y =
    let p = car_plan (plan_of bytes) in
    let o = car_refusal bytes in
    let j : IsPlanned (p a.marks) a.budget (o a.budget (length a.sheet) a.marks) b.sheet b.sheet' y.answer =
    subst (λ (l : List ℕ). IsPlanned (p l) a.budget (o a.budget (length a.sheet) l) b.sheet b.sheet' y.answer)
    (sym s.marks)
    (subst (λ (k : ℕ). IsPlanned (p b.marks) k (o k (length a.sheet) b.marks) b.sheet b.sheet' y.answer) (sym s.budget)
    (subst (λ (k : ℕ). IsPlanned (p b.marks) b.budget (o b.budget k b.marks) b.sheet b.sheet' y.answer)
    (sym s.places) y.called.planned))
    in
    one_answer (p a.marks) a.budget _ (lent_by a) (left_to a) n x.answer x.called.planned x.handed_over (lent_by b)
    (left_to b) m y.answer j y.handed_over

-- NEITHER CAR FEELS THE OTHER.
module _ (bytes : List ℕ) (a b a' b' : Lent) (n n' : ℤ) (x : IsExportedCars bytes a b n) (y : IsExportedCars bytes a' b' n') where
  pub first_alone_lent : LendAlike a a' → LeaveOneAnswer (lent_by a) (left_to a) (first_number n) (lent_by a') (left_to a')
      (first_number n')
  first_alone_lent s =
      one_car bytes a a' (first_number n) (first_number n') s (first_answered bytes a b n x) (first_answered bytes a' b' n' y)

  pub second_alone_lent : LendAlike b b' → LeaveOneAnswer (lent_by b) (left_to b) (second_number n) (lent_by b') (left_to b')
      (second_number n')
  second_alone_lent s =
      one_car bytes b b' (second_number n) (second_number n') s (second_answered bytes a b n x) (second_answered bytes a' b' n' y)

  -- and two cars that lend alike are answered alike, the first of one call and the second of the other
  pub either_car_lent : LendAlike a b' → LeaveOneAnswer (lent_by a) (left_to a) (first_number n) (lent_by b') (left_to b')
      (second_number n')
  either_car_lent s =
      one_car bytes a b' (first_number n) (second_number n') s (first_answered bytes a b n x) (second_answered bytes a' b' n' y)

-- THE PLAN'S OWN MARKS: a car is left what the plan call leaves, on sheets of one length.
pub own_marks_lent : (bytes : List ℕ) (c : Lent) (n : ℤ) → IsCarAnswered bytes c n → c.marks ≡ own_marks (plan_of bytes)
    → (old new : Slices) (m : ℤ) → length c.sheet ≡ length old.sheet
    → IsCalled bytes c.budget old new m
    → LeaveOneAnswer (lent_by c) (left_to c) n old new m
own_marks_lent bytes c n x e old new m s y =
    let own = as_plan_call bytes c.budget c.sheet c.sheet' x.answer
    (subst (λ (l : List ℕ). IsCar bytes l c.budget c.sheet c.sheet' x.answer) e x.called) in
    let j = subst (λ (k : ℕ). IsPlanned (plan_of bytes) c.budget (call_refusal bytes c.budget k) old.sheet new.sheet y.answer)
    (sym s) y.called.planned in
    one_answer (plan_of bytes) c.budget _ (lent_by c) (left_to c) n x.answer own.planned x.handed_over old new m y.answer j
    y.handed_over
