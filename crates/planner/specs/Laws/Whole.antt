-- The whole call: where the file is refused, so is the call; where it is not, the first condition that applies is among the rest.
use Rattle.std.specs.Prelude.{◌≡◌, ℕ, length, Result}
use Rattle.std.proofs.Common.{sym, ◌∙◌, subst}
use Rattle.std.proofs.Math.Path.{ap}
use mathlib.Core.List.{List, [], ◌∷◌, ◌++◌}
use Rattle.std.proofs.Math.Option.{none, some}
use Rattle.postman.specs.Plan.{Plan, WellFormed}
use Rattle.postman.specs.Refusal.{Conditions, first_refusal}
use Rattle.postman.specs.PlanFile.{file_conditions, plan_of}
use Rattle.postman.specs.PlanCall.{is_cut_off, call_conditions, parts_conditions, last_conditions, earlier_conditions, call_refusal}
use Rattle.postman_laws.specs.Laws.Theorem.{cut_off}
use Rattle.plan.specs.Records.{plan_value}
use Rattle.refusal.specs.declared.Refusal.{Refusal}
use Rattle.plan_file.specs.declared.Reading.{Reading}
use Rattle.plan_file.specs.Reading.{IsReading, plan_in}
use Rattle.plan_file.specs.Laws.Reading.{accepted_value}
use Rattle.postman_laws.specs.Laws.Refusal.{first_on, first_stop, before_order}
use Rattle.solution.specs.declared.Planned.{Planned}
use Rattle.call_steps.specs.Refusals.{budget_refusal, sheet_refusal}
use Rattle.planner.specs.Contract.{IsPlanCall}
use Rattle.solution.specs.Planned.{IsPlanned}
use Rattle.call_steps.specs.Laws.Call.{parts_refusal}
use Rattle.call_steps.specs.Laws.Answer.{read_answer}

module _ (bytes : List ℕ) (budget places : ℕ) where
  abbrev p : Plan
  p = plan_of bytes

  abbrev last : Conditions
  last = (is_cut_off p, 12) ∷ []

  abbrev later : Conditions
  later = call_conditions budget places ++ (parts_conditions p ++ last)

  all_conditions : call_refusal bytes budget places ≡ first_refusal (file_conditions bytes ++ later)
  unfolding call_refusal earlier_conditions
  all_conditions = ap first_refusal (before_order bytes budget places [] p last)

  pub file_refused : (r : ℕ) → first_refusal (file_conditions bytes) ≡ some r → call_refusal bytes budget places ≡ some r
  file_refused r e = all_conditions ∙ first_stop (file_conditions bytes) later r e

  pub file_on : first_refusal (file_conditions bytes) ≡ none → call_refusal bytes budget places ≡ first_refusal later
  file_on e = all_conditions ∙ first_on (file_conditions bytes) later e

  later_refusal : WellFormed p → first_refusal later ≡ sheet_refusal p budget places
  unfolding first_refusal call_conditions sheet_refusal budget_refusal
  later_refusal w = rw (parts_refusal p w)

  pub file_good : WellFormed p → first_refusal (file_conditions bytes) ≡ none
      → call_refusal bytes budget places ≡ sheet_refusal p budget places
  file_good w e = file_on e ∙ later_refusal w

-- the plan of a file that is not refused
pub read_planned : (bytes : List ℕ) (budget : ℕ) (old new : List ℕ) (x : Result Planned Refusal) (r : Result Reading Refusal)
    → IsReading bytes r
    → first_refusal (file_conditions bytes) ≡ none
    → IsPlanned (plan_value (plan_in r)) budget
    (first_refusal (call_conditions budget (length old) ++ last_conditions (plan_value (plan_in r)))) old new x
    → IsPlanned (plan_of bytes) budget (call_refusal bytes budget (length old)) old new x
read_planned bytes budget old new x r h e i =
    read_answer (λ p o new x. IsPlanned p budget o old new x) bytes (plan_value (plan_in r)) (λ p. p)
    (λ p. call_conditions budget (length old) ++ last_conditions p) _ new x
    (all_conditions bytes budget (length old)) e (accepted_value bytes r h e) i

pub is_call : (bytes : List ℕ) (budget : ℕ) (old new : List ℕ) (r : Result Planned Refusal)
    → IsPlanned (plan_of bytes) budget (call_refusal bytes budget (length old)) old new r → IsPlanCall bytes budget old new r
is_call bytes budget old new r i =
    let c = cut_off bytes budget (length old) in
    record { planned = i; cut_off = ((λ e. c.0 (sym i.verdict ∙ e)), (λ h. i.verdict ∙ c.1 h)) }

pub call_as : (bytes : List ℕ) (b c : ℕ) (old new : List ℕ) (r : Result Planned Refusal) → b ≡ c → IsPlanCall bytes b old new r
    → IsPlanCall bytes c old new r
call_as bytes b c old new r e i = subst (λ (b : ℕ). IsPlanCall bytes b old new r) e i
