-- One car, from the file on: its tables are the file's, its refusals are the file's and then its own, and
-- what is answered for its plan is its contract.
use Rattle.std.specs.Prelude.{◌≡◌, true, false, List, ◌++◌, map, ℕ, length, Result}
use Rattle.std.proofs.Math.Path.{refl}
use Rattle.std.proofs.Common.{sym, ap, ◌∙◌, subst}
use Rattle.std.proofs.Math.Option.{Option, none, some}
use Rattle.postman.specs.Lists.{below}
use Rattle.postman.specs.Plan.{Plan}
use Rattle.postman.specs.Refusal.{Conditions, first_refusal}
use Rattle.postman.specs.PlanFile.{file_conditions, plan_of}
use Rattle.postman.specs.PlanCall.{call_conditions, last_conditions}
use Rattle.postman.specs.Marks.{has_bad_mark, car_plan, mark_conditions, earlier_conditions_for, car_refusal}
use Rattle.postman_laws.specs.Laws.Theorem.{last_cut_off}
use Rattle.postman_laws.specs.Laws.Marks.{car_roads, car_table, car_conditions, car_other, earlier_accepted_for, car_order}
use Rattle.shortest.specs.StepContracts.{AreWeights}
use Rattle.shortest.specs.Laws.Roads.{weights_same}
use Rattle.plan.specs.Records.{plan_value}
use Rattle.refusal.specs.declared.Refusal.{Refusal}
use Rattle.refusal.specs.Verdict.{refusal_number}
use Rattle.plan_file.specs.declared.Reading.{Reading}
use Rattle.plan_file.specs.Reading.{IsReading, plan_in}
use Rattle.plan_file.specs.Laws.Reading.{accepted_value}
use Rattle.solution.specs.declared.Planned.{Planned}
use Rattle.multipliers.specs.Drive.{table_of}
use Rattle.solution.specs.Planned.{IsPlanned}
use Rattle.call_steps.specs.Refused.{refused_with}
use Rattle.call_steps.specs.Laws.Refused.{is_refused}
use Rattle.call_steps.specs.Laws.Answer.{read_answer, file_refused_answer}
use Rattle.two_cars.specs.Contract.{IsCar}

-- ---- the tables do not depend on marks

pub table_shared : (p : Plan) (marks : List ℕ) (table : List (List ℕ)) → table ≡ table_of p → table ≡ table_of (car_plan p marks)
unfolding table_of
table_shared p marks table e = e ∙ sym (ap (λ (d : ℕ → ℕ → ℕ). map (λ i. map (d i) (below 64)) (below 64)) (car_table p marks))

pub weights_shared : (p : Plan) (marks : List ℕ) (weights : List (List ℕ)) → AreWeights p weights → AreWeights (car_plan p marks) weights
unfolding car_plan
weights_shared p marks weights h = weights_same p (car_plan p marks) refl (car_roads p marks) weights h

-- ---- 18

module _ (p : Plan) (marks : List ℕ) where
  pub marks_refused : has_bad_mark p marks ≡ true → first_refusal (mark_conditions p marks) ≡ some 18
  unfolding first_refusal mark_conditions
  marks_refused h = rw h refl

  pub marks_good : has_bad_mark p marks ≡ false → first_refusal (mark_conditions p marks) ≡ none
  unfolding first_refusal mark_conditions
  marks_good h = rw h refl

-- ---- the whole call of a car

module _ (bytes marks : List ℕ) (budget : ℕ) (old new : List ℕ) (r : Result Planned Refusal) where
  abbrev car : Plan
  car = car_plan (plan_of bytes) marks

  abbrev Answered : Plan → Option ℕ → List ℕ → Result Planned Refusal → Type 0
  Answered p o new x = IsPlanned p budget o old new x

  -- the conditions after the file's
  abbrev later : Plan → Conditions
  later p = call_conditions budget (length old) ++ (mark_conditions p marks ++ last_conditions (car_plan p marks))

  abbrev Called : Type 0
  Called = Answered car (car_refusal bytes budget (length old) marks) new r

  pub is_car : Called → IsCar bytes marks budget old new r
  is_car i =
      let sure = earlier_accepted_for bytes budget (length old) marks in
      let e = car_conditions bytes budget (length old) marks in
      let c = last_cut_off (earlier_conditions_for bytes budget (length old) marks) car (car_other bytes budget (length old) marks)
      (λ h. ((sure h).well_formed, (sure h).before.some_required)) in
      record { planned = i; cut_off = ((λ h. c.0 (sym e ∙ sym i.verdict ∙ h)), (λ h. i.verdict ∙ e ∙ c.1 h)) }

  -- a file that is refused refuses the car
  pub file_refused_for : (x : Refusal) → r ≡ refused_with x → old ≡ new → first_refusal (file_conditions bytes) ≡ some (refusal_number x)
      → Called
  file_refused_for x h s e =
      subst (λ (new : List ℕ). Answered car (car_refusal bytes budget (length old) marks) new r) s
      (file_refused_answer Answered old (λ p x. is_refused p budget old x) bytes car (later (plan_of bytes)) _ x r
      (car_order bytes budget (length old) marks) e h)

  -- one that is not gives its plan
  pub read_planned_for : (x : Result Reading Refusal) → IsReading bytes x → first_refusal (file_conditions bytes) ≡ none
      → Answered (car_plan (plan_value (plan_in x)) marks) (first_refusal (later (plan_value (plan_in x)))) new r → Called
  read_planned_for x h e i =
      read_answer Answered bytes (plan_value (plan_in x)) (λ p. car_plan p marks) later _ new r
      (car_order bytes budget (length old) marks) e (accepted_value bytes x h e) i
