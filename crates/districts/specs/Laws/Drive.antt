-- The last turn of any machine's front district: it can be gone on with, so that its plan has drives and what it
-- holds after the turn is a tree and its cost.
use Rattle.std.specs.Prelude.{◌≡◌, Bool, true, false, not, cond, ◌&&◌, List, ◌∷◌, ℕ, ◌-◌, ◌≤◌, min, T, leb, ltb, length, drop, Result, Ok}
use Rattle.std.proofs.Math.Path.{refl, sym, ap, subst⁻¹}
use Rattle.std.proofs.Common.{◌∙◌, arith, ltb→lt}
use Rattle.std.proofs.Math.Option.{Option, none, some}
use Rattle.std.proofs.Math.ListN.{length-append}
use Rattle.std.proofs.Math.Seq.{take-append_seam}
use Rattle.postman.specs.Plan.{Plan, WellFormed}
use Rattle.postman.specs.Refusal.{first_refusal, is_good}
use Rattle.postman.specs.PlanFile.{file_conditions, is_outside}
use Rattle.postman.specs.Drive.{IsDrive, drive_cost}
use Rattle.postman.specs.Component.{component_count}
use Rattle.postman.specs.PlanCall.{sheet_places, highest_budget, tried_count}
use Rattle.postman_laws.specs.Laws.Acceptance.{file_accepted}
use Rattle.postman.specs.Steps.{Plannable}
use Rattle.postman.specs.Laws.Tests.{and_parts, of_true, is_true}
use Rattle.drive_legs.specs.Drive.{written}
use Rattle.multipliers.specs.Drive.{tree_drive}
use Rattle.multipliers.specs.Laws.Drive.{tree_drive_lem}
use Rattle.call_steps.specs.Refusals.{plan_refusal}
use Rattle.call_steps.specs.Laws.Call.{parts_refusal}
use Rattle.refusal.specs.declared.Refusal.{Refusal}
use Rattle.solution.specs.declared.Planned.{Planned}
use Rattle.tree_search.specs.declared.trees.Reached.{Reached}
use Rattle.tree_search.specs.Resumed.{links_by, held_after}
use Rattle.tree_search.specs.Laws.Resumed.{HoldsCost, on_priced}
use Rattle.district_turn.specs.DistrictTurn.{is_holding, is_resumable, can_go_on, is_last, last_answer, last_sheet}
use Rattle.district_turn.specs.Laws.DistrictTurn.{held_priced}
use Rattle.district_machine.specs.declared.machine.District.{District as DistrictRecord}
use Rattle.district_machine.specs.declared.machine.Machine.{Machine}
use Rattle.districts.specs.declared.turn.Turned.{Turned}
use Rattle.district_machine.specs.Machine.{bytes_of, waiting_in}
use Rattle.districts.specs.Number.{had_last}
use Rattle.districts.specs.Turned.{plan_by, has_own_place, is_readable, can_be_served, Meeting, short_sheet, stuck, goes_on, leaves, meeting_in, meeting, outcome_of, answer_of, sheet_after, IsTurned}
use Rattle.districts.specs.Finished.{HoldsDrive}
use Rattle.district_entry.specs.Laws.Line.{plan_ok}

good_none : (o : Option ℕ) → T (is_good o) → o ≡ none
unfolding is_good
good_none none t = refl
good_none (some r) t = absurd t

module _ (d : DistrictRecord) (can : can_be_served d ≡ true) where
  abbrev p : Plan
  p = plan_by d

  abbrev g : Reached
  g = d.held

  both : T (is_readable d) × T (can_go_on p d.budget g)
  both = and_parts (is_readable d) (can_go_on p d.budget g) (of_true can)

  file : first_refusal (file_conditions (bytes_of d)) ≡ none
  unfolding is_readable
  file =
      let a = and_parts (leb d.plan.length 1475)
      (not (is_outside d.budget 1 highest_budget) && is_good (first_refusal (file_conditions (bytes_of d)))) both.0 in
      good_none (first_refusal (file_conditions (bytes_of d)))
      (and_parts (not (is_outside d.budget 1 highest_budget)) (is_good (first_refusal (file_conditions (bytes_of d)))) a.1).1

  go : T (is_good (plan_refusal p)) × T (is_resumable p d.budget g)
  go = and_parts (is_good (plan_refusal p)) (is_resumable p d.budget g) both.1

  wf : WellFormed p
  wf = file_accepted (bytes_of d) file

  plan : Plannable p × (component_count p ≤ 8)
  plan = plan_ok p wf (parts_refusal p wf ∙ good_none (plan_refusal p) go.0)

  parts : T (is_holding p g) × T (ltb g.tried (tried_count p d.budget))
  parts = and_parts (is_holding p g) (ltb g.tried (tried_count p d.budget)) go.1

  priced : HoldsCost p plan.0 (held_after p d.budget g)
  priced =
      let l = ltb→lt g.tried (tried_count p d.budget) parts.1 in
      on_priced p plan.0 plan.1 g.cost (links_by p g) g.tried (min 1000 (tried_count p d.budget - g.tried)) (omega arith)
      (held_priced p g 0 (is_true parts.0))

  abbrev drive : List ℕ
  drive = tree_drive p (held_after p d.budget g).links

  pub last_drive : (old : List ℕ) → HoldsDrive p (last_sheet p d.budget g old) (Ok (last_answer p d.budget g))
  unfolding written
  last_drive old =
      let t = tree_drive_lem p plan.0 plan.1 (held_after p d.budget g).links priced.0 in
      let e = take-append_seam drive (drop (length drive) old) in
      record {
        fits = (let n = length-append drive (drop (length drive) old) in omega arith);
        drive = subst⁻¹ (IsDrive p) e t.0.drive;
        costs = ap (drive_cost p) e ∙ t.1 ∙ sym priced.1;
      }

-- WHATEVER THE MACHINE
module _ (m : Machine) (old new : List ℕ) (r : Turned) (t : IsTurned m old new r) (d : DistrictRecord) (ds : List DistrictRecord)
    (w : waiting_in m ≡ d ∷ ds) where
  abbrev Drives : Meeting → Type 0
  Drives k = had_last (outcome_of k) ≡ true → HoldsDrive (plan_by d) (sheet_after k old) (answer_of k)

  drives : (x y z : Bool) → (leb m.waiting 8 && (has_own_place d ds && can_be_served d)) ≡ y
      → Drives (cond x short_sheet (cond y (cond z (leaves d ds) (goes_on d ds)) stuck))
  drives true y z q = λ h. absurd (subst⁻¹ T h tt)
  drives false true true q =
      λ h. last_drive d
      (is_true (and_parts (has_own_place d ds) (can_be_served d)
      (and_parts (leb m.waiting 8) (has_own_place d ds && can_be_served d) (of_true q)).1).1) old
  drives false true false q = λ h. absurd (subst⁻¹ T h tt)
  drives false false z q = λ h. absurd (subst⁻¹ T h tt)

  met_drives : Drives (meeting_in m.waiting (length old) (d ∷ ds))
  unfolding meeting_in
  met_drives =
      drives (ltb (length old) sheet_places) (leb m.waiting 8 && (has_own_place d ds && can_be_served d))
      (is_last (plan_by d) d.budget d.held) refl

  pub finished_drive : had_last r.outcome ≡ true → HoldsDrive (plan_by d) new r.planned
  finished_drive e =
      let k = meeting m (length old) in
      let q : k ≡ meeting_in m.waiting (length old) (d ∷ ds) = ap (meeting_in m.waiting (length old)) w in
      let x : HoldsDrive (plan_by d) (sheet_after k old) (answer_of k) = subst⁻¹ Drives q met_drives (sym (ap had_last t.outcome) ∙ e) in
      subst⁻¹ (λ (y : List ℕ). HoldsDrive (plan_by d) y r.planned) t.sheet
      (subst⁻¹ (λ (y : Result Planned Refusal). HoldsDrive (plan_by d) (sheet_after k old) y) t.planned x)
