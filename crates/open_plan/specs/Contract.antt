-- What the calls of an open plan answer.
use Rattle.std.specs.Prelude.{◌≡◌, List, [], ℕ}
use Rattle.std.proofs.Math.Option.{Option}
use Rattle.postman.specs.Refusal.{first_refusal, unless}
use Rattle.postman.specs.PlanFile.{file_conditions}
use Rattle.postman.specs.OpenPlan.{Call, unless_refused}
use Rattle.refusal.specs.Verdict.{verdict_number}
use Rattle.open_plan.specs.declared.OpenPlan.{OpenPlan}
use Rattle.open_plan.specs.declared.Moved.{Moved}
use Rattle.held_file.specs.Held.{held_of}
use Rattle.open_plan.specs.State.{fresh_state, refusal_of, next}

-- An answer, by its refusal and the open plan then.
pub record IsMoveAnswer (refusal : Option ℕ) (s : OpenPlan) (r : Moved) : Type 0 where
  pub verdict : verdict_number r.verdict ≡ refusal
  pub state : r.state ≡ s

-- "Opening takes plan bytes, can give 1 to 7 and 13, and sets no mark." In a refusal no plan is open.
pub record IsOpened (bytes : List ℕ) (r : Moved) : Type 0 where
  pub verdict : verdict_number r.verdict ≡ first_refusal (file_conditions bytes)
  pub state : r.state ≡ fresh_state (held_of (unless (first_refusal (file_conditions bytes)) bytes []))

-- A change, a mark or a return, on any state: a refusal "alters nothing".
pub record IsMoved (s : OpenPlan) (c : Call) (r : Moved) : Type 0 where
  pub verdict : verdict_number r.verdict ≡ refusal_of s c
  pub state : r.state ≡ unless_refused (refusal_of s c) (next s c) s
