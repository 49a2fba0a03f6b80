-- The verdict of the windows is the first of their conditions that applies. From the contract over the plan at the departure, what is said
-- of the file's plan: its drives are those that avoid the arcs shut, at equal costs.
use Rattle.std.specs.Prelude.{◌≡◌, List, ◌++◌, Bool, true, false, not, cond, ℕ, length, take, pos, ◌≤ℤ◌, T, Result}
use Rattle.std.proofs.Math.Path.{refl}
use Rattle.std.proofs.Common.{sym, ◌∙◌, subst}
use Rattle.std.proofs.Math.Option.{Option, none, some}
use Rattle.postman.specs.Plan.{Plan}
use Rattle.postman.specs.Refusal.{Conditions, first_refusal}
use Rattle.postman.specs.PlanFile.{file_conditions, plan_of}
use Rattle.postman.specs.PlanCall.{call_conditions, last_conditions}
use Rattle.postman.specs.Drive.{IsDrive, drive_cost}
use Rattle.postman.specs.Windows.{Departure, windows_in, plan_at, Avoids, has_bad_window, is_must_shut, window_conditions, call_refusal_at}
use Rattle.postman_laws.specs.Laws.Theorem.{cut_off_at}
use Rattle.postman_laws.specs.Laws.Windows.{drives, same_drive_cost, call_accepted_at, at_order}
use Rattle.plan.specs.Records.{plan_value}
use Rattle.plan.specs.declared.Plan.{Plan as PlanRecord}
use Rattle.plan.specs.Laws.Records.{plan_length}
use Rattle.refusal.specs.declared.Refusal.{Refusal}
use Rattle.refusal.specs.Verdict.{refusal_number, verdict_number}
use Rattle.plan_file.specs.declared.Reading.{Reading}
use Rattle.plan_file.specs.Reading.{IsReading, plan_in}
use Rattle.plan_file.specs.Laws.Reading.{accepted_value}
use Rattle.solution.specs.declared.Planned.{Planned}
use Rattle.solution.specs.Planned.{IsPlanned, summary_of, places_of}
use Rattle.call_steps.specs.Refused.{refused_with}
use Rattle.call_steps.specs.Laws.Refused.{is_refused}
use Rattle.call_steps.specs.Laws.Answer.{read_answer, file_refused_answer}
use Rattle.solution.specs.Laws.Answered.{accepted, cost_is, floor_is, drive_written}
use Rattle.windows.specs.Contract.{IsPlanCallAt}

-- ---- 19 and 20

module _ (r : PlanRecord) (numbers : List ℕ) (d : Departure) where
  abbrev is_bad : Bool
  is_bad = has_bad_window r.m numbers d

  abbrev is_shut_must : Bool
  is_shut_must = is_must_shut (plan_value r) (windows_in numbers) d

  by_record : first_refusal (window_conditions (plan_value r) numbers d) ≡ cond is_bad (some 19) (cond is_shut_must (some 20) none)
  unfolding first_refusal window_conditions
  by_record = let l = plan_length r in rw l refl

  pub bad_refused : is_bad ≡ true → some 19 ≡ first_refusal (window_conditions (plan_value r) numbers d)
  bad_refused h = rw (by_record, h) refl

  pub must_refused : is_bad ≡ false → is_shut_must ≡ true → some 20 ≡ first_refusal (window_conditions (plan_value r) numbers d)
  must_refused h s = rw (by_record, h, s) refl

  pub windows_good : is_bad ≡ false → is_shut_must ≡ false → none ≡ first_refusal (window_conditions (plan_value r) numbers d)
  windows_good h s = rw (by_record, h, s) refl

-- ---- the whole call

module _ (bytes : List ℕ) (budget : ℕ) (numbers : List ℕ) (d : Departure) (old new : List ℕ) (r : Result Planned Refusal) where
  abbrev p : Plan
  p = plan_of bytes

  abbrev q : Plan
  q = plan_at p (windows_in numbers) d

  abbrev Answered : Plan → Option ℕ → List ℕ → Result Planned Refusal → Type 0
  Answered p o new x = IsPlanned p budget o old new x

  -- the conditions after the file's
  abbrev later : Plan → Conditions
  later p = call_conditions budget (length old) ++ (window_conditions p numbers d ++ last_conditions (plan_at p (windows_in numbers) d))

  abbrev Called : Type 0
  Called = Answered q (call_refusal_at bytes budget (length old) numbers d) new r

  module _ (i : Called) (e : verdict_number r ≡ none) where
    open_must : T (not (is_must_shut p (windows_in numbers) d))
    open_must = (call_accepted_at bytes budget (length old) numbers d (accepted _ _ _ _ _ _ i e)).none_shut

    floor_below : (w : List ℕ) → IsDrive p w → Avoids (windows_in numbers) d w → (summary_of r).floor ≤ℤ pos (drive_cost p w)
    floor_below w t a =
        let l = (i.answered (accepted _ _ _ _ _ _ i e)).guarantee.below_every_drive w
        ((drives p (windows_in numbers) d open_must w).1 (t, a)) in
        subst (λ c. (summary_of r).floor ≤ℤ pos c) (same_drive_cost p (windows_in numbers) d open_must w) (rw (floor_is _ _ _ _ _ _ i e) l)

    written_is : IsDrive p (take (places_of r) new) × Avoids (windows_in numbers) d (take (places_of r) new)
    written_is = (drives p (windows_in numbers) d open_must (take (places_of r) new)).0 (drive_written _ _ _ _ _ _ i e).drive

    written_costs : drive_cost p (take (places_of r) new) ≡ (summary_of r).cost
    written_costs =
        sym (same_drive_cost p (windows_in numbers) d open_must (take (places_of r) new)) ∙ (drive_written _ _ _ _ _ _ i e).costs
        ∙ sym (cost_is _ _ _ _ _ _ i e)

  pub is_call_at : Called → IsPlanCallAt bytes budget numbers d old new r
  is_call_at i =
      let c = cut_off_at bytes budget (length old) numbers d in
      record {
        planned = i;
        cut_off = ((λ e. c.0 (sym i.verdict ∙ e)), (λ h. i.verdict ∙ c.1 h));
        below_every_drive = floor_below i;
        written_drive = λ e. (written_is i e).0;
        written_avoids = λ e. (written_is i e).1;
        written_cost = written_costs i;
      }

  -- a file that is refused refuses the call
  pub file_refused_at : (x : Refusal) → r ≡ refused_with x → old ≡ new → first_refusal (file_conditions bytes) ≡ some (refusal_number x)
      → Called
  file_refused_at x h s e =
      subst (λ (new : List ℕ). Answered q (call_refusal_at bytes budget (length old) numbers d) new r) s
      (file_refused_answer Answered old (λ p x. is_refused p budget old x) bytes q (later p) _ x r
      (at_order bytes budget (length old) numbers d) e h)

  -- one that is not gives its plan
  pub read_planned_at : (x : Result Reading Refusal) → IsReading bytes x → first_refusal (file_conditions bytes) ≡ none
      → Answered (plan_at (plan_value (plan_in x)) (windows_in numbers) d) (first_refusal (later (plan_value (plan_in x)))) new r → Called
  read_planned_at x h e i =
      read_answer Answered bytes (plan_value (plan_in x)) (λ p. plan_at p (windows_in numbers) d) later _ new r
      (at_order bytes budget (length old) numbers d) e (accepted_value bytes x h e) i
