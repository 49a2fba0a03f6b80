-- What a caller reads off an answer, whatever plan it is for: cost, floor and the other fields by their definitions, the floor is at least
-- 0, being at least R + Z, and the places written lie within the sheet and are the drive.
use Rattle.std.specs.Prelude.{◌≡◌, Result, List, ℕ, ◌≤◌, drop, pos, ◌≤ℤ◌}
use Rattle.std.proofs.Common.{sym, ◌∙◌, length-take}
use Rattle.std.proofs.Math.Path.{ap, ap₂, subst⁻¹}
use Rattle.std.proofs.Math.Option.{Option, none}
use native.Mathlib.Omega.{arith}
use Rattle.std.proofs.Math.ListN.{length, take, length-append}
use Rattle.std.proofs.Math.Seq.{take-append_seam}
use Rattle.integers.specs.Linear.{z}
use Rattle.postman.specs.Plan.{Plan}
use Rattle.postman.specs.Refusal.{answer, unless}
use Rattle.postman.specs.PlanCall.{Summary, summary, fields, best_cost, lower_bound, IsAnswerDrive}
use Rattle.drive_legs.specs.Drive.{written}
use Rattle.solution.specs.declared.Planned.{Planned}
use Rattle.refusal.specs.declared.Refusal.{Refusal}
use Rattle.refusal.specs.Verdict.{verdict_number}
use Rattle.multipliers.specs.Drive.{drive_of}
use Rattle.solution.specs.Planned.{summary_of, places_of, multipliers_of, count_unless, IsAnswer, IsPlanned}

module _ (p : Plan) (budget : ℕ) (refusal : Option ℕ) (old new : List ℕ) (r : Result Planned Refusal)
    (i : IsPlanned p budget refusal old new r) (e : verdict_number r ≡ none) where
  pub accepted : refusal ≡ none
  accepted = sym i.verdict ∙ e

  pub is_answer : IsAnswer p budget r
  is_answer = i.answered accepted

  pub summary_given : summary_of r ≡ summary p budget (multipliers_of r)
  unfolding answer fields
  summary_given = i.summary_is ∙ ap (λ (o : Option ℕ). fields (answer o (summary p budget (multipliers_of r)))) accepted

  pub cost_is : (summary_of r).cost ≡ best_cost p budget
  unfolding summary
  cost_is = ap (λ (s : Summary). s.cost) summary_given

  pub floor_is : (summary_of r).floor ≡ lower_bound p budget (multipliers_of r)
  unfolding summary
  floor_is = ap (λ (s : Summary). s.floor) summary_given

  pub floor_above : pos 0 ≤ℤ (summary_of r).floor
  floor_above = let l = is_answer.guarantee.above_balancing in let f = floor_is in omega (arith, z)

  pub sheet_is : new ≡ written (drive_of p budget) old
  unfolding unless
  sheet_is = i.sheet ∙ ap (λ (o : Option ℕ). unless o (written (drive_of p budget) old) old) accepted

  pub count_is : places_of r ≡ length (drive_of p budget)
  unfolding count_unless
  count_is = i.places_are ∙ ap (λ (o : Option ℕ). count_unless o (length (drive_of p budget))) accepted

  pub places_fit : places_of r ≤ length new
  unfolding written
  places_fit =
      let c = count_is in
      let w = ap length sheet_is in
      let n = length-append (drive_of p budget) (drop (length (drive_of p budget)) old) in
      omega arith

  pub places_count : places_of r ≡ length (take (places_of r) new)
  places_count = let a = places_fit in let b = length-take (places_of r) new in omega arith

  pub drive_is : take (places_of r) new ≡ drive_of p budget
  unfolding written
  drive_is = ap₂ take count_is sheet_is ∙ take-append_seam (drive_of p budget) (drop (length (drive_of p budget)) old)

  pub drive_written : IsAnswerDrive p budget (take (places_of r) new)
  drive_written = subst⁻¹ (IsAnswerDrive p budget) drive_is is_answer.drive
