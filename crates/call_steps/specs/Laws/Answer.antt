-- What every call on a file shares, whatever its contract C says of a plan, a refusal, the sheet afterwards and the answer: C is carried
-- along equal plans and refusals, and the file's conditions come first.
use Rattle.std.specs.Prelude.{◌≡◌, Result, List, ◌++◌, ℕ}
use Rattle.std.proofs.Common.{sym, ap, ◌∙◌, subst}
use Rattle.std.proofs.Math.Path.{subst⁻¹}
use Rattle.std.proofs.Math.Option.{Option, none, some}
use Rattle.postman.specs.Plan.{Plan}
use Rattle.postman.specs.Refusal.{Conditions, first_refusal}
use Rattle.postman.specs.PlanFile.{file_conditions, plan_of}
use Rattle.postman_laws.specs.Laws.Refusal.{first_on, first_stop}
use Rattle.refusal.specs.declared.Refusal.{Refusal}
use Rattle.refusal.specs.Verdict.{refusal_number}
use Rattle.solution.specs.declared.Planned.{Planned}
use Rattle.call_steps.specs.Refused.{refused_with}

module _ (C : Plan → Option ℕ → List ℕ → Result Planned Refusal → Type 0) where
  pub answer_as : (p q : Plan) (o o' : Option ℕ) (new : List ℕ) (x : Result Planned Refusal) → p ≡ q → o ≡ o' → C p o new x → C q o' new x
  answer_as p q o o' new x e h i = subst (λ (q : Plan). C q o' new x) e (subst (λ (o : Option ℕ). C p o new x) h i)

  -- a file that is not refused gives its plan, of which the call makes its own
  pub read_answer : (bytes : List ℕ) (p : Plan) (made : Plan → Plan) (later : Plan → Conditions) (o : Option ℕ) (new : List ℕ)
      (x : Result Planned Refusal)
      → o ≡ first_refusal (file_conditions bytes ++ later (plan_of bytes)) → first_refusal (file_conditions bytes) ≡ none
      → p ≡ plan_of bytes
      → C (made p) (first_refusal (later p)) new x → C (made (plan_of bytes)) o new x
  read_answer bytes p made later o new x order e v i =
      answer_as (made p) (made (plan_of bytes)) (first_refusal (later p)) o new x (ap made v)
      (ap (λ (p : Plan). first_refusal (later p)) v ∙ sym (order ∙ first_on (file_conditions bytes) (later (plan_of bytes)) e)) i

  module _ (old : List ℕ) (refused : (p : Plan) (r : Refusal) → C p (some (refusal_number r)) old (refused_with r)) where
    pub refused_answer : (p : Plan) (o : Option ℕ) (r : Refusal) (x : Result Planned Refusal) → x ≡ refused_with r
        → o ≡ some (refusal_number r) → C p o old x
    refused_answer p o r x e h =
        subst⁻¹ (λ (x : Result Planned Refusal). C p o old x) e (subst⁻¹ (λ (o : Option ℕ). C p o old (refused_with r)) h (refused p r))

    -- a file that is refused refuses the call
    pub file_refused_answer : (bytes : List ℕ) (p : Plan) (later : Conditions) (o : Option ℕ) (r : Refusal) (x : Result Planned Refusal)
        → o ≡ first_refusal (file_conditions bytes ++ later) → first_refusal (file_conditions bytes) ≡ some (refusal_number r)
        → x ≡ refused_with r → C p o old x
    file_refused_answer bytes p later o r x order e h =
        refused_answer p o r x h (order ∙ first_stop (file_conditions bytes) later (refusal_number r) e)
