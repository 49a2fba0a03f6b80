-- What each call answers, by the verdict that it came to.
use Rattle.std.specs.Prelude.{◌≡◌, refl, Ok, ◌≢◌, List, [], ℕ, ◌≤◌, ◌<◌}
use Rattle.std.proofs.Math.Path.{sym}
use Rattle.std.proofs.Common.{◌∙◌, lt-ltb, le-ltb, eq-eqb, ne_eqb}
use Rattle.std.proofs.Math.Option.{Option, none, some}
use Rattle.postman.specs.Refusal.{first_refusal, unless}
use Rattle.postman.specs.PlanFile.{file_conditions}
use Rattle.postman.specs.OpenPlan.{Change, Call, mark, return}
use Rattle.open_plan.specs.declared.OpenPlan.{OpenPlan}
use Rattle.open_plan.specs.declared.Moved.{Moved}
use Rattle.held_file.specs.declared.Held.{Held}
use Rattle.held_file.specs.Held.{file_in, held_of, IsHeld}
use Rattle.open_plan.specs.State.{fresh_state, mark_in, refusal_of, next}
use Rattle.held_file.specs.Change.{changed_file, file_change_refusal}
use Rattle.open_plan.specs.Contract.{IsMoveAnswer, IsOpened, IsMoved}

-- ---- answers

-- an answer that is not refused, and one that is
module _ (s : OpenPlan) (c : Call) (r : Moved) where
  pub moved_on : refusal_of s c ≡ none → IsMoveAnswer none (next s c) r → IsMoved s c r
  moved_on e a = record { verdict = a.verdict ∙ sym e; state = rw e a.state }

  pub moved_not : (k : ℕ) → refusal_of s c ≡ some k → IsMoveAnswer (some k) s r → IsMoved s c r
  moved_not k e a = record { verdict = a.verdict ∙ sym e; state = rw e a.state }

-- of the state that it is said of, or an equal one
pub answer_of : (o : Option ℕ) (s t : OpenPlan) (r : Moved) → s ≡ t → IsMoveAnswer o s r → IsMoveAnswer o t r
answer_of o s t r e a = record { verdict = a.verdict; state = a.state ∙ e }

-- 21, by the tests of a mark's number and of what the mark holds
module _ (s : OpenPlan) (k : ℕ) where
  pub mark_above : 3 < k → refusal_of s (mark k) ≡ some 21
  mark_above h = rw (lt-ltb 3 k h) refl

  pub mark_good : k ≤ 3 → refusal_of s (mark k) ≡ none
  mark_good h = rw (le-ltb 3 k h) refl

  pub return_above : 3 < k → refusal_of s (return k) ≡ some 21
  return_above h = rw (lt-ltb 3 k h) refl

  pub return_unset : k ≤ 3 → (mark_in s k).length ≡ 0 → refusal_of s (return k) ≡ some 21
  return_unset h z = rw (le-ltb 3 k h, eq-eqb _ _ z) refl

  pub return_set : k ≤ 3 → (mark_in s k).length ≢ 0 → refusal_of s (return k) ≡ none
  return_set h z = rw (le-ltb 3 k h, ne_eqb _ _ z) refl

-- ---- a change

pub change_file : (s : OpenPlan) (c : Change) (x : Held)
    → IsHeld (file_change_refusal (file_in s.plan) c) (changed_file (file_in s.plan) c) (Ok x)
    → x ≡ held_of (changed_file (file_in s.plan) c)
change_file s c x h = h.held

-- ---- opening

module _ (bytes : List ℕ) (s : OpenPlan) (r : Moved) where
  pub open_accepted : first_refusal (file_conditions bytes) ≡ none → s ≡ fresh_state (held_of bytes) → IsMoveAnswer none s r
      → IsOpened bytes r
  unfolding unless
  open_accepted e f a = record { verdict = a.verdict ∙ sym e; state = rw e (a.state ∙ f) }

  pub open_refused : (k : ℕ) → first_refusal (file_conditions bytes) ≡ some k → s ≡ fresh_state (held_of []) → IsMoveAnswer (some k) s r
      → IsOpened bytes r
  unfolding unless
  open_refused k e f a = record { verdict = a.verdict ∙ sym e; state = rw e (a.state ∙ f) }
