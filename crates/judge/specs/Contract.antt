-- What the judging call answers.
use Rattle.std.specs.Prelude.{◌≡◌, cond, ◌↔◌, List, ℕ, length, eqb, Result, Ok, Err}
use Rattle.std.proofs.Math.Option.{none}
use Rattle.postman.specs.Plan.{Plan, required_arcs}
use Rattle.postman.specs.Refusal.{first_refusal, Answer, refused, given, answer}
use Rattle.postman.specs.PlanFile.{plan_of}
use Rattle.postman.specs.Drive.{IsDrive, drive_cost}
use Rattle.postman.specs.Judge.{fault_conditions, unjudged_conditions, judge_answer}
use Rattle.refusal.specs.Verdict.{refusal_number}
use Rattle.refusal.specs.declared.Refusal.{Refusal}

-- The cost, or document 01's number for the refusal.
abbrev pub judged_answer : Result ℕ Refusal → Answer ℕ
judged_answer (Ok c) = given c
judged_answer (Err r) = refused (refusal_number r)

-- The answer of a plan that was read: from 14 on, and from 10 on.
unfoldable pub list_answer : Plan → List ℕ → Answer ℕ
unfolding answer first_refusal fault_conditions drive_cost
list_answer p w = answer (first_refusal (fault_conditions p w)) (drive_cost p w)

unfoldable pub plan_answer : Plan → List ℕ → Answer ℕ
unfolding list_answer required_arcs
plan_answer p w = cond (eqb (length (required_arcs p)) 0) (refused 10) (list_answer p w)

-- THE JUDGING CALL on any bytes and any list, of any length.
pub record IsJudged (bytes w : List ℕ) (r : Result ℕ Refusal) : Type 0 where
  -- the cost, or the first refusal that applies
  pub answer_is : judged_answer r ≡ judge_answer bytes w
  -- "Where 1 to 7, 10 and 13 don't apply, it returns the cost exactly when the list is a drive by the definition"
  pub exactly : first_refusal (unjudged_conditions bytes (length w)) ≡ none
      → ((c : ℕ) × (judged_answer r ≡ given c)) ↔ IsDrive (plan_of bytes) w
  -- a cost is that of a drive, whatever applies
  pub costs : (c : ℕ) → judged_answer r ≡ given c → IsDrive (plan_of bytes) w × (c ≡ drive_cost (plan_of bytes) w)
